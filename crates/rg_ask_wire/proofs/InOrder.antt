-- Parts of JSON that is in order are in order.
use Rattle.std.proofs.Common.{◌≡◌, ℕ, ℤ, pos, List, [], ◌∷◌, map, Option, Some, None, IfSome, option_and_then, unwrap_or, refl, sym, ap, ap₂, ◌∙◌, subst, Ordering, Less, Equal, Greater}
use Rattle.std.specs.Str.{IsUtf8, chars, encode_utf8_all}
use Rattle.std.specs.Ordering.{match_ordering, nat_cmp}
use Rattle.std.specs.Cmp.Lexicographic.{slice_cmp}
use Rattle.std.proofs.lemmas.Str.{chars-nil, encodes-chars}
use Rattle.serde_json.specs.Data.{Data, null, boolean, number, string, array, object, Items, no_items, item, Members, no_members, member}
use Rattle.serde_json.specs.Find.{get, get_member, as_str, as_number, as_i64}
use Rattle.rg_json.specs.Fields.{data_list, field, items_in, list_at, list_of, map_at, map_of, members_in, pairs_list, text_at, text_of, text_or_at, unless_null, within, i64_at}
use Rattle.rg_json.specs.Own.{EachOf, IsInteger, IsText, OwnList}
use Rattle.rg_json.proofs.Owned.{own_nil, own_text}
use Rattle.rg_ask_wire.specs.KeyOrder.{AreInOrder, OwnMap}
use Rattle.rg_ask_wire.specs.Orderly.{AreKeyed, AreOrderly, IsOrderly}

-- ---- what is found

abbrev pub Found : Option Data → Type 0
Found None = Unit {0}
Found (Some d) = IsOrderly d

chosen : (o : Ordering) (found : Option Data) (d : Data) → Found found → IsOrderly d → Found (match_ordering o found (Some d) found)
chosen Less found d f is = f
chosen Equal found d f is = is
chosen Greater found d f is = f

member_found : (k : List ℕ) (ms : Members) → AreKeyed ms → Found (get_member k ms)
member_found k no_members all = tt
member_found k (member l d ms) all = chosen (slice_cmp nat_cmp k l) (get_member k ms) d (member_found k ms all.3) all.2

got : (k : List ℕ) (d : Data) → IsOrderly d → Found (get k d)
got k null is = tt
got k (boolean b) is = tt
got k (number n) is = tt
got k (string s) is = tt
got k (array ds) is = tt
got k (object ms) is = member_found k ms is

there : (o : Option Data) → Found o → Found (option_and_then unless_null o)
there None f = tt
there (Some null) f = tt
there (Some (boolean b)) f = f
there (Some (number n)) f = f
there (Some (string s)) f = f
there (Some (array ds)) f = f
there (Some (object ms)) f = f

pub field_found : (k : List ℕ) (d : Data) → IsOrderly d → Found (field k d)
unfolding field
field_found k d is = there (get k d) (got k d is)

or_null : (o : Option Data) → Found o → IsOrderly (unwrap_or o null)
or_null None f = tt
or_null (Some d) f = f

pub within_orderly : (k : List ℕ) (d : Data) → IsOrderly d → IsOrderly (within k d)
unfolding within
within_orderly k d is = or_null (field k d) (field_found k d is)

-- ---- texts and integers

chars_own : (s : List ℕ) → IsUtf8 s → IsText (chars s)
chars_own s u = own_text (chars s) s refl u

none_own : IsText (chars [])
none_own = subst IsText (sym chars-nil) own_nil

pub text_own : (d : Data) → IsOrderly d → IsText (text_of d)
unfolding text_of
text_own null is = none_own
text_own (boolean b) is = none_own
text_own (number n) is = none_own
text_own (string s) is = chars_own s is
text_own (array ds) is = none_own
text_own (object ms) is = none_own

found_text : (o : Option Data) → Found o → IsText (chars (unwrap_or (option_and_then as_str o) []))
unfolding text_of
found_text None f = none_own
found_text (Some d) f = text_own d f

pub text_at_own : (k : List ℕ) (d : Data) → IsOrderly d → IsText (text_at k d)
unfolding text_at
text_at_own k d is = found_text (field k d) (field_found k d is)

-- a text, or the text of a field
pub name_own : (k : List ℕ) (d : Data) → IsOrderly d → IsText (text_or_at k d)
unfolding text_or_at
name_own k null is = text_own null is
name_own k (boolean b) is = text_own (boolean b) is
name_own k (number n) is = text_own (number n) is
name_own k (string s) is = text_own (string s) is
name_own k (array ds) is = text_own (array ds) is
name_own k (object ms) is = text_at_own k (object ms) is

fine : (o : Option ℤ) → IfSome o IsInteger → IsInteger (unwrap_or o (pos 0))
fine None f = refl
fine (Some z) f = f

number_fine : (d : Data) → IsOrderly d → IfSome (option_and_then as_i64 (as_number d)) IsInteger
number_fine null is = tt
number_fine (boolean b) is = tt
number_fine (number n) is = is
number_fine (string s) is = tt
number_fine (array ds) is = tt
number_fine (object ms) is = tt

found_fine : (o : Option Data) → Found o → IfSome (option_and_then (λ v. option_and_then as_i64 (as_number v)) o) IsInteger
found_fine None f = tt
found_fine (Some d) f = number_fine d f

pub integer_own : (k : List ℕ) (d : Data) → IsOrderly d → IsInteger (i64_at (pos 0) k d)
unfolding i64_at
integer_own k d is = fine (option_and_then (λ v. option_and_then as_i64 (as_number v)) (field k d)) (found_fine (field k d) (field_found k d is))

-- ---- lists

abbrev EachOrderly : List Data → Type 0
EachOrderly ds = EachOf IsOrderly ds

items_orderly : (ds : Items) → AreOrderly ds → EachOrderly (data_list ds)
items_orderly no_items all = tt
items_orderly (item d ds) all = (all.0, items_orderly ds all.1)

in_items : (d : Data) → IsOrderly d → EachOrderly (items_in d)
unfolding items_in
in_items null is = tt
in_items (boolean b) is = tt
in_items (number n) is = tt
in_items (string s) is = tt
in_items (array ds) is = items_orderly ds is
in_items (object ms) is = tt

module _ {X : Type 0} (own : X → Type 0) where
  each_own : (read : Data → X) → ((d : Data) → IsOrderly d → own (read d)) → (ds : List Data) → EachOrderly ds → EachOf own (map read ds)
  each_own read f [] all = tt
  each_own read f (d ∷ ds) all = (f d all.0, each_own read f ds all.1)

  pub list_of_own : (read : Data → X) → ((d : Data) → IsOrderly d → own (read d)) → (d : Data) → IsOrderly d → OwnList own (list_of read d)
  unfolding list_of
  list_of_own read f d is = (each_own read f (items_in d) (in_items d is), refl)

  pub list_own : (read : Data → X) → ((d : Data) → IsOrderly d → own (read d)) → (k : List ℕ) (d : Data) → IsOrderly d → OwnList own (list_at read k d)
  unfolding list_at
  list_own read f k d is = list_of_own read f (within k d) (within_orderly k d is)

-- ---- maps

abbrev Keyed : List (List ℕ × Data) → Type 0
Keyed [] = Unit {0}
Keyed (m ∷ []) = IsUtf8 m.0 × IsOrderly m.1
Keyed (m ∷ n ∷ ms) = IsUtf8 m.0 × IsOrderly m.1 × (slice_cmp nat_cmp m.0 n.0 ≡ Less) × Keyed (n ∷ ms)

members_keyed : (ms : Members) → AreKeyed ms → Keyed (pairs_list ms)
members_keyed no_members all = tt
members_keyed (member k d no_members) all = (all.0, all.2)
members_keyed (member k d (member l e ms)) all = (all.0, all.2, all.1, members_keyed (member l e ms) all.3)

in_members : (d : Data) → IsOrderly d → Keyed (members_in d)
unfolding members_in
in_members null is = tt
in_members (boolean b) is = tt
in_members (number n) is = tt
in_members (string s) is = tt
in_members (array ds) is = tt
in_members (object ms) is = members_keyed ms is

module _ {X : Type 0} (name : X → List ℕ) (own : X → Type 0) (read : List ℕ × Data → X) (named : (m : List ℕ × Data) → name (read m) ≡ chars m.0) (f : (m : List ℕ × Data) → IsUtf8 m.0 → IsOrderly m.1 → own (read m)) where
  each_member_own : (ms : List (List ℕ × Data)) → Keyed ms → EachOf own (map read ms)
  each_member_own [] all = tt
  each_member_own (m ∷ []) all = (f m all.0 all.1, tt)
  each_member_own (m ∷ n ∷ ms) all = (f m all.0 all.1, each_member_own (n ∷ ms) all.3)

  key_of : (m : List ℕ × Data) → IsUtf8 m.0 → encode_utf8_all (name (read m)) ≡ m.0
  key_of m u = ap encode_utf8_all (named m) ∙ encodes-chars m.0 u

  first_utf8 : (m : List ℕ × Data) (ms : List (List ℕ × Data)) → Keyed (m ∷ ms) → IsUtf8 m.0
  first_utf8 m [] all = all.0
  first_utf8 m (n ∷ ms) all = all.0

  members_in_order : (ms : List (List ℕ × Data)) → Keyed ms → AreInOrder name (map read ms)
  members_in_order [] all = tt
  members_in_order (m ∷ []) all = (tt, tt)
  members_in_order (m ∷ n ∷ ms) all = (ap₂ (slice_cmp nat_cmp) (key_of m all.0) (key_of n (first_utf8 n ms all.3)) ∙ all.2, members_in_order (n ∷ ms) all.3)

  pub map_of_own : (d : Data) → IsOrderly d → OwnMap name own (map_of read d)
  unfolding map_of
  map_of_own d is = let all = in_members d is in record { each = each_member_own (members_in d) all; ordered = members_in_order (members_in d) all; whole = refl }

  pub map_own : (k : List ℕ) (d : Data) → IsOrderly d → OwnMap name own (map_at read k d)
  unfolding map_at
  map_own k d is = map_of_own (within k d) (within_orderly k d is)
