-- The first place of a name, and the index that gives it.
use Rattle.std.proofs.Common.{eqb, ⊎_elim, zero, ◌&&◌, Contains, take, position, ◌+◌, ◌≡◌, ◌<◌, ℕ, suc, Bool, true, false, not, ◌||◌, cond, List, [], ◌∷◌, ◌++◌, length, get_or, Option, Some, None, option_map, refl, sym, ap, ◌∙◌, arith}
use Rattle.std.specs.BTreeMap.{BTreeMap, get_by_text}
use Rattle.std.specs.Option.{is_none, is_some, option_eq, option_or}
use Rattle.std.specs.Str.{IsUtf8, bytes_eq, chars, encode_utf8_all}
use Rattle.std.specs.declared.string.String.{String}
use Rattle.std.proofs.lemmas.Slice.Eq.{bytes_eq-Decides}
use Rattle.std.specs.List.{position_from, list_any}
use Rattle.std.proofs.lemmas.Iterator.Adapters.{position_from-zero}
use Rattle.std.proofs.lemmas.List.Quantifiers.{position-Some}
use Rattle.std.proofs.lemmas.Str.{encodes-chars}
use Rattle.std.specs.Bool.{Decides}
use Rattle.std.proofs.lemmas.Bool.Decides.{same_from_decides}
use Rattle.std.proofs.lemmas.Bool.{eq-eqb, eqb-true, and_from, and_parts, or_from, cases_order, false_from_ne_true, both_ways, true≢false}
use Rattle.std.proofs.lemmas.List.{get_or-take, get_or_default, length-take-le}
use Rattle.std.proofs.lemmas.List.Folds.{Any-from_list_any, list_any_at}
use Rattle.rg_base.specs.Names.{first_repeat, repeats}
use Rattle.rg_base.specs.Places.{IsIndex, place_in}
use Rattle.rg_base.specs.Texts.{all_distinct, is_among}
use Rattle.rg_base.proofs.Firsts.{first_none, none_first}

any_from : {X : Type 0} (p : X → Bool) (xs : List X) (x : X) → Contains xs x → p x ≡ true → list_any p xs ≡ true
any_from p xs x c h = list_any_at p xs c.0 x c.1 (ap p c.2 ∙ h)

any_at : {X : Type 0} (p : X → Bool) (xs : List X) → list_any p xs ≡ true → (x : X) × Contains xs x × (p x ≡ true)
any_at p xs h = let a = Any-from_list_any p xs h in (a.1, (a.0, a.2, a.3), a.4)

not_true : (b : Bool) → not b ≡ true → b ≡ false
not_true false h = refl
not_true true h = absurd (true≢false (sym h))

pub flip_not : (a b : Bool) → a ≡ not b → b ≡ not a
flip_not a false h = ap not (sym h)
flip_not a true h = ap not (sym h)

pub same_place : (o : Option ℕ) (k : ℕ) → not (option_eq eqb o (Some k)) ≡ false → o ≡ Some k
same_place None k h = absurd (true≢false h)
same_place (Some j) k h = ap Some (eqb-true j k (flip_not (not (eqb j k)) (eqb j k) refl ∙ ap not h))

pub not_same_place : (o : Option ℕ) (k : ℕ) → not (option_eq eqb o (Some k)) ≡ true → o ≡ Some k → ⊥
not_same_place o k h e = both_ways (option_eq eqb o (Some k)) (not_true (option_eq eqb o (Some k)) h) (ap (λ p. option_eq eqb p (Some k)) e ∙ eq-eqb k k refl)

or_none_left : (a b : Bool) → (a || b) ≡ false → a ≡ false
or_none_left false b h = refl
or_none_left true b h = absurd (true≢false h)

or_none_right : (a b : Bool) → (a || b) ≡ false → b ≡ false
or_none_right false b h = h
or_none_right true b h = absurd (true≢false h)

pub known : (names : List (List ℕ)) (name : List ℕ) → is_among name names ≡ is_some (place_in names name)
known [] name = refl
known (n ∷ names) name = by_case (bytes_eq n name) (place_in names name) (known names name) where
  by_case : (b : Bool) (o : Option ℕ) → is_among name names ≡ is_some o → (b || is_among name names) ≡ is_some (cond b (Some 0) (option_map suc o))
  by_case true o e = refl
  by_case false None e = e
  by_case false (Some k) e = e

pub place_found : (names : List (List ℕ)) (name : List ℕ) (k : ℕ) → place_in names name ≡ Some k → (k < length names) × (get_or names k [] ≡ name)
place_found [] name k e = absurd (cc)
place_found (n ∷ names) name k e = by_case (bytes_eq n name) (place_in names name) refl refl (place_found names name) e where
  by_case : (b : Bool) (o : Option ℕ) → bytes_eq n name ≡ b → place_in names name ≡ o
      → ((j : ℕ) → place_in names name ≡ Some j → (j < length names) × (get_or names j [] ≡ name))
      → cond b (Some 0) (option_map suc o) ≡ Some k → (k < length (n ∷ names)) × (get_or (n ∷ names) k [] ≡ name)
  by_case true o eb eo later h =
      let same : 0 ≡ k = cc in
      (omega arith, ap (λ j. get_or (n ∷ names) j []) (sym same) ∙ (bytes_eq-Decides n name).0 eb)
  by_case false None eb eo later h = absurd (cc)
  by_case false (Some j) eb eo later h =
      let same : suc j ≡ k = cc in
      let found = later j eo in
      let within : j < length names = found.0 in
      (omega arith, ap (λ i. get_or (n ∷ names) i []) (sym same) ∙ found.1)

pub place_push : (names : List (List ℕ)) (m name : List ℕ)
    → place_in (names ++ m ∷ []) name ≡ option_or (place_in names name) (cond (bytes_eq m name) (Some (length names)) None)
place_push [] m name = by_case (bytes_eq m name) where
  by_case : (b : Bool) → cond b (Some 0) (option_map suc None) ≡ cond b (Some 0) None
  by_case true = refl
  by_case false = refl
place_push (n ∷ names) m name =
    ap (λ o. cond (bytes_eq n name) (Some 0) (option_map suc o)) (place_push names m name) ∙ by_case (bytes_eq n name) (place_in names name) (bytes_eq m name) where
      by_case : (b : Bool) (o : Option ℕ) (last : Bool) → cond b (Some 0) (option_map suc (option_or o (cond last (Some (length names)) None)))
          ≡ option_or (cond b (Some 0) (option_map suc o)) (cond last (Some (length (n ∷ names))) None)
      by_case true o last = refl
      by_case false (Some k) last = refl
      by_case false None true = ap Some (let h : suc (length names) ≡ length (n ∷ names) = omega arith in h)
      by_case false None false = refl

or_none : (o : Option ℕ) → o ≡ option_or o None
or_none None = refl
or_none (Some k) = refl

-- the index of a list that ends with a name which stands before it
pub index_same : {Z : Type 0} (places : BTreeMap (String Z) ℕ) (names : List (List ℕ)) (name : List ℕ) (k : ℕ) → place_in names name ≡ Some k
    → IsIndex places names → IsIndex places (names ++ name ∷ [])
index_same places names name k at ix bs u = ix bs u ∙ by_case (place_in names (chars bs)) (bytes_eq name (chars bs)) refl refl ∙ sym (place_push names name (chars bs)) where
  by_case : (o : Option ℕ) (b : Bool) → place_in names (chars bs) ≡ o → bytes_eq name (chars bs) ≡ b → o ≡ option_or o (cond b (Some (length names)) None)
  by_case (Some j) b eo eb = refl
  by_case None false eo eb = refl
  by_case None true eo eb = absurd (let same : None ≡ Some k = sym eo ∙ ap (place_in names) (sym ((bytes_eq-Decides name (chars bs)).0 eb)) ∙ at in cc)

-- the index with one more name
pub index_add : {Z : Type 0} (old new : BTreeMap (String Z) ℕ) (bs : List ℕ) (place : ℕ) → IsUtf8 bs
    → ((cs : List ℕ) → get_by_text new cs ≡ cond (bytes_eq bs cs) (Some place) (get_by_text old cs))
    → (names : List (List ℕ)) → IsIndex old names → place_in names (chars bs) ≡ None → place ≡ length names → IsIndex new (names ++ chars bs ∷ [])
index_add old new bs place u updates names ix none at q uq = updates q ∙ by_case (bytes_eq bs q) refl ∙ sym (place_push names (chars bs) (chars q)) where
  by_case : (b : Bool) → bytes_eq bs q ≡ b
      → cond b (Some place) (get_by_text old q) ≡ option_or (place_in names (chars q)) (cond (bytes_eq (chars bs) (chars q)) (Some (length names)) None)
  by_case true e =
      let same : bs ≡ q = (bytes_eq-Decides bs q).0 e in
      let new_name : place_in names (chars q) ≡ None = ap (λ t. place_in names (chars t)) (sym same) ∙ none in
      let here : bytes_eq (chars bs) (chars q) ≡ true = (bytes_eq-Decides (chars bs) (chars q)).1 (ap chars same) in
      ap Some at ∙ sym (λ i. option_or (new_name i) (cond (here i) (Some (length names)) None))
  by_case false e =
      let other : bytes_eq (chars bs) (chars q) ≡ false = false_from_ne_true (bytes_eq (chars bs) (chars q)) (λ h.
      both_ways (bytes_eq bs q) e ((bytes_eq-Decides bs q).1
      (sym (encodes-chars bs u) ∙ ap encode_utf8_all ((bytes_eq-Decides (chars bs) (chars q)).0 h) ∙ encodes-chars q uq))) in
      ix q uq ∙ or_none (place_in names (chars q)) ∙ sym (ap (λ b. option_or (place_in names (chars q)) (cond b (Some (length names)) None)) other)

pub none_from : (o : Option ℕ) → is_some o ≡ false → o ≡ None
none_from None e = refl
none_from (Some k) e = absurd (true≢false e)

pub some_from : (o : Option ℕ) → is_some o ≡ true → (k : ℕ) × (o ≡ Some k)
some_from None e = absurd (true≢false (sym e))
some_from (Some k) e = (k, refl)

place_from : (names : List (List ℕ)) (name : List ℕ) (n : ℕ) → position_from (λ t. bytes_eq t name) n names ≡ option_map (λ k. n + k) (place_in names name)
place_from [] name n = refl
place_from (t ∷ names) name n = by_case (bytes_eq t name) (place_in names name) (place_from names name (n + 1)) where
  by_case : (b : Bool) (o : Option ℕ) → position_from (λ t. bytes_eq t name) (n + 1) names ≡ option_map (λ k. n + 1 + k) o
      → cond b (Some n) (position_from (λ t. bytes_eq t name) (n + 1) names) ≡ option_map (λ k. n + k) (cond b (Some 0) (option_map suc o))
  by_case true o e = ap Some (omega arith)
  by_case false None e = e
  by_case false (Some k) e = e ∙ ap Some (let h : n + 1 + k ≡ n + suc k = omega arith in h)

-- the place is what std calls the position
pub place_is : (names : List (List ℕ)) (name : List ℕ) → place_in names name ≡ position (λ t. bytes_eq t name) names
place_is names name = sym (position_from-zero (λ t. bytes_eq t name) names ∙ place_from names name 0 ∙ by_case (place_in names name)) where
  by_case : (o : Option ℕ) → option_map (λ k. 0 + k) o ≡ o
  by_case None = refl
  by_case (Some k) = ap Some (omega arith)

module _ (names : List (List ℕ)) (k : ℕ) (within : k < length names) where
  abbrev name : List ℕ
  name = get_or names k []

  first_at : (j : ℕ) → place_in names name ≡ Some j → (j < length names) × (get_or names j [] ≡ name) × ((i : ℕ) → i < j → bytes_eq (get_or names i []) name ≡ false)
  first_at j e =
      let f = position-Some (λ t. bytes_eq t name) names j [] (sym (place_is names name) ∙ e) in
      (f.0, (bytes_eq-Decides (get_or names j []) name).0 f.1, f.2)

  -- a name that is first found at its own place stands at none before it
  pub not_repeated : place_in names name ≡ Some k → repeats names k ≡ false
  not_repeated e = false_from_ne_true (repeats names k) (λ h.
      let a = any_at (λ t. bytes_eq t name) (take k names) h in
      let l : a.1.0 < k = let n = length-take-le k names (omega arith) in let m : a.1.0 < length (take k names) = a.1.1 in omega arith in
      let same : get_or names a.1.0 [] ≡ a.0 = get_or_default names a.1.0 [] a.0 (omega arith) ∙ sym (get_or-take k names a.1.0 a.0 l) ∙ a.1.2 in
      both_ways (bytes_eq (get_or names a.1.0 []) name) ((first_at k e).2 a.1.0 l) (ap (λ t. bytes_eq t name) same ∙ a.2))

  -- and one that isn't does
  pub repeated : (place_in names name ≡ Some k → ⊥) → repeats names k ≡ true
  repeated away = by_case (place_in names name) refl where
    by_case : (o : Option ℕ) → place_in names name ≡ o → repeats names k ≡ true
    by_case None e = absurd (true≢false (sym (any_from (λ t. bytes_eq t name) names name (k, within, get_or_default names k name [] within) ((bytes_eq-Decides name name).1 refl)) ∙ known names name ∙ ap is_some e))
    by_case (Some j) e =
        let f = first_at j e in
        ⊎_elim
        (λ same. absurd (away (e ∙ ap Some same)))
        (⊎_elim
        (λ below. any_from (λ t. bytes_eq t name) (take k names) (get_or names j [])
        (j, let n = length-take-le k names (omega arith) in omega arith, get_or-take k names j (get_or names j []) below ∙ get_or_default names j (get_or names j []) [] (omega arith))
        ((bytes_eq-Decides (get_or names j []) name).1 f.1))
        (λ above. absurd (both_ways (bytes_eq name name) (f.2 k above) ((bytes_eq-Decides name name).1 refl))))
        (cases_order j k)

-- no name stands before itself
abbrev AllNew : List (List ℕ) → Type 0
AllNew names = (k : ℕ) → k < length names → repeats names k ≡ false

new_none : (names : List (List ℕ)) → Decides (is_none (first_repeat names)) (AllNew names)
new_none names = (
  λ h. first_none (repeats names) (length names) (none_from (first_repeat names) (not_true (is_some (first_repeat names)) h)),
  λ a. ap is_none (none_first (repeats names) (length names) a),
)

new_distinct : (names : List (List ℕ)) → Decides (all_distinct (λ x y. bytes_eq y x) names) (AllNew names)
new_distinct [] = (λ h k l. absurd (omega arith), λ a. refl)
new_distinct (n ∷ names) = (fresh (new_distinct names).0, distinct (new_distinct names).1) where
  fresh : (all_distinct (λ x y. bytes_eq y x) names ≡ true → AllNew names) → not (list_any (λ t. bytes_eq t n) names) && all_distinct (λ x y. bytes_eq y x) names ≡ true → AllNew (n ∷ names)
  fresh later h zero l = refl
  fresh later h (suc k) l =
      let again = list_any (λ t. bytes_eq t n) names in
      let parts = and_parts (not again) (all_distinct (λ x y. bytes_eq y x) names) h in
      let within : k < length names = omega arith in
      or_from (bytes_eq n (get_or names k [])) (repeats names k)
      (false_from_ne_true (bytes_eq n (get_or names k [])) (λ same. both_ways again (not_true again parts.0)
      (any_from (λ t. bytes_eq t n) names (get_or names k []) (k, within, get_or_default names k (get_or names k []) [] within)
      ((bytes_eq-Decides (get_or names k []) n).1 (sym ((bytes_eq-Decides n (get_or names k [])).0 same))))))
      (later parts.1 k within)

  distinct : (AllNew names → all_distinct (λ x y. bytes_eq y x) names ≡ true) → AllNew (n ∷ names) → not (list_any (λ t. bytes_eq t n) names) && all_distinct (λ x y. bytes_eq y x) names ≡ true
  distinct later a =
      let again = list_any (λ t. bytes_eq t n) names in
      and_from (not again) (all_distinct (λ x y. bytes_eq y x) names)
      (ap not (false_from_ne_true again (λ h.
      let t = any_at (λ t. bytes_eq t n) names h in
      let within : t.1.0 < length names = t.1.1 in
      let same : n ≡ get_or names t.1.0 [] = sym ((bytes_eq-Decides t.0 n).0 t.2) ∙ sym (t.1.2) ∙ get_or_default names t.1.0 t.0 [] within in
      both_ways (bytes_eq n (get_or names t.1.0 [])) (or_none_left (bytes_eq n (get_or names t.1.0 [])) (repeats names t.1.0) (a (suc t.1.0) (omega arith)))
      ((bytes_eq-Decides n (get_or names t.1.0 [])).1 same))))
      (later (λ k l. or_none_right (bytes_eq n (get_or names k [])) (repeats names k) (a (suc k) (omega arith))))

-- no name stands twice exactly where no two are the same
pub distinct_is : (names : List (List ℕ)) → is_none (first_repeat names) ≡ all_distinct (λ x y. bytes_eq y x) names
distinct_is names = same_from_decides (is_none (first_repeat names)) (all_distinct (λ x y. bytes_eq y x) names) (new_none names) (new_distinct names)
