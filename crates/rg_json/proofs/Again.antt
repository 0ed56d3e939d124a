-- What was printed is read again.
use Rattle.std.proofs.Common.{◌≡◌, ℕ, ℤ, List, [], ◌∷◌, map, Option, Some, option_and_then, unwrap_or, Bool, true, false, cond, true≢false, refl, sym, ap, ap₂, ◌∙◌, subst, bytes_eq}
use Rattle.std.specs.Str.{chars}
use Rattle.std.proofs.lemmas.Slice.Eq.{bytes_eq-Decides}
use Rattle.serde_json.specs.Data.{Data, null, Members, put}
use Rattle.serde_json.specs.Find.{get, get_member, as_str, as_bool, as_number, as_i64, as_u64}
use Rattle.serde_json.proofs.Views.{get_member-put, get_member-put_other}
use Rattle.rg_base.specs.Listed.{Listed, listed}
use Rattle.rg_json.specs.Fields.{field, unless_null, text_of, text_at, bool_at, i64_at, u64_at, within, items_in, list_of, list_at}
use Rattle.rg_json.specs.Own.{IsText, IsInteger, EachOf, OwnList}
use Rattle.rg_json.specs.Printing.{with_members, text_data, bool_data, integer_data, count_data, list_data}
use Rattle.rg_json.proofs.Views.{data_list-of}

pub get_put_at : (b : Bool) (q k : List ℕ) (d : Data) (ms : Members) → bytes_eq q k ≡ b → get_member q (put k d ms) ≡ cond b (Some d) (get_member q ms)
get_put_at true q k d ms e = subst (λ x. get_member x (put k d ms) ≡ Some d) (sym ((bytes_eq-Decides q k).0 e)) (get_member-put k d ms)
get_put_at false q k d ms e = get_member-put_other q k d ms (λ same. true≢false (sym ((bytes_eq-Decides q k).1 same) ∙ e))

-- the last of the members that are put under a name
abbrev pub found_in : {K : Type 0} → (K → List ℕ) → List ℕ → List (K × Data) → Option Data → Option Data
found_in name_of k [] old = old
found_in name_of k (p ∷ ps) old = found_in name_of k ps (cond (bytes_eq k (name_of p.0)) (Some p.1) old)

pub get_with : {K : Type 0} (name_of : K → List ℕ) (k : List ℕ) (ps : List (K × Data)) (ms : Members) → get_member k (with_members name_of ms ps) ≡ found_in name_of k ps (get_member k ms)
get_with name_of k [] ms = refl
get_with name_of k (p ∷ ps) ms = get_with name_of k ps (put (name_of p.0) p.1 ms) ∙ ap (found_in name_of k ps) (get_put_at (bytes_eq k (name_of p.0)) k (name_of p.0) p.1 ms refl)

-- ---- fields that were printed, taken again

pub text_again : (k : List ℕ) (t : List ℕ) (d : Data) → get k d ≡ Some (text_data t) → IsText t → text_at k d ≡ t
unfolding text_at field text_data
text_again k t d found own = ap (λ o. chars (unwrap_or (option_and_then as_str (option_and_then unless_null o)) [])) found ∙ own

pub bool_again : (usual : Bool) (k : List ℕ) (b : Bool) (d : Data) → get k d ≡ Some (bool_data b) → bool_at usual k d ≡ b
unfolding bool_at field
bool_again usual k b d found = ap (λ o. unwrap_or (option_and_then as_bool (option_and_then unless_null o)) usual) found

pub each_again : {X : Type 0} (read : Data → X) (print : X → Data) (own : X → Type 0) → ((x : X) → own x → read (print x) ≡ x) → (xs : List X) → EachOf own xs → map read (map print xs) ≡ xs
each_again read print own again [] all = refl
each_again read print own again (x ∷ xs) all = ap₂ (λ y ys. y ∷ ys) (again x all.0) (each_again read print own again xs all.1)

pub list_again : {X : Type 0} (read : Data → X) (print : X → Data) (k : List ℕ) (xs : Listed X) (d : Data) → get k d ≡ Some (list_data print xs)
    → map read (map print xs.items) ≡ xs.items → xs ≡ listed xs.items → list_at read k d ≡ xs
unfolding list_at list_of items_in within field list_data
list_again read print k xs d found again whole =
    ap (λ o. list_of read (unwrap_or (option_and_then unless_null o) null)) found
    ∙ ap (λ ds. listed (map read ds)) (data_list-of (map print xs.items))
    ∙ ap (λ ys. listed ys) again
    ∙ sym whole

pub text_of_again : (t : List ℕ) → IsText t → text_of (text_data t) ≡ t
unfolding text_of text_data
text_of_again t own = own

pub own_again : {X : Type 0} (read : Data → X) (print : X → Data) (own : X → Type 0) → ((x : X) → own x → read (print x) ≡ x) → (k : List ℕ) (xs : Listed X) (d : Data)
    → get k d ≡ Some (list_data print xs) → OwnList own xs → list_at read k d ≡ xs
own_again read print own again k xs d found all = list_again read print k xs d found (each_again read print own again xs.items all.0) all.1

pub texts_again : (k : List ℕ) (ts : Listed (List ℕ)) (d : Data) → get k d ≡ Some (list_data text_data ts) → OwnList IsText ts → list_at text_of k d ≡ ts
texts_again k ts d found all = own_again text_of text_data IsText text_of_again k ts d found all

pub integer_again : (usual : ℤ) (k : List ℕ) (z : ℤ) (d : Data) → get k d ≡ Some (integer_data z) → IsInteger z → i64_at usual k d ≡ z
unfolding i64_at field integer_data
integer_again usual k z d found own =
    ap (λ o. unwrap_or (option_and_then (λ v. option_and_then as_i64 (as_number v)) (option_and_then unless_null o)) usual) found
    ∙ ap (λ o. unwrap_or o usual) own

pub count_again : (usual : ℕ) (k : List ℕ) (n : ℕ) (d : Data) → get k d ≡ Some (count_data n) → u64_at usual k d ≡ n
unfolding u64_at field
count_again usual k n d found = ap (λ o. unwrap_or (option_and_then (λ v. option_and_then as_u64 (as_number v)) (option_and_then unless_null o)) usual) found
