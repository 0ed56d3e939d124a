-- For proofs alone: lists of which at most one item passes a test, changed at the first place of one that does.
use Rattle.std.proofs.Common.{◌≡◌, ◌+◌, ◌∷◌, ◌++◌, ◌||◌, ℕ, ℤ, zero, suc, Bool, true, false, not, cond, List, [], Option, Some, None, option_map, map, position, slice_get, refl, ap, sym, ◌∙◌, arith}
use Rattle.std.specs.List.{find, list_any, position_from}
use Rattle.std.specs.Option.{option_and_then}
use Rattle.std.specs.Ordering.{int_eq}
use Rattle.std.specs.Str.{bytes_eq}
use Rattle.std.proofs.lemmas.Bool.{and_parts, false≢true}
use Rattle.std.proofs.lemmas.Bool.Decides.{Decides-int_eq}
use Rattle.std.proofs.lemmas.Iterator.Adapters.{position_from-zero}
use Rattle.std.proofs.lemmas.Slice.Eq.{bytes_eq-Decides}
use Rattle.std.proofs.lemmas.Option.{none-some, same_Some}
use Rattle.rg_base.proofs.Lists.{Contains-slice_get, any_from, any_holds}
use Rattle.rg_base.specs.Texts.{all_distinct}
use Rattle.rg_admin.specs.InPlace.{put_at, without_at}
use Rattle.rg_cmd.specs.Lists.{put, without}
use Rattle.rg_validate.proofs.Places.{place_is, place_of}
use Rattle.rg_admin_laws.proofs.Lists.{case, none_passes, not_true, or_false}

-- one place further on in a list that has one more before it
put_later : {X : Type 0} (y x : X) (ys : List X) (o : Option ℕ) → y ∷ put_at o x ys ≡ put_at (option_map suc o) x (y ∷ ys)
put_later y x ys None = refl
put_later y x ys (Some k) = refl

taken_later : {X : Type 0} (y : X) (ys : List X) (o : Option ℕ) → y ∷ without_at o ys ≡ without_at (option_map suc o) (y ∷ ys)
taken_later y ys None = refl
taken_later y ys (Some k) = refl

module _ {X : Type 0} (alike : X → X → Bool) (same : X → Bool) (shared : (a b : X) → same a ≡ true → same b ≡ true → alike a b ≡ true) where
  pub none_after : (y : X) (xs : List X) → same y ≡ true → not (list_any (alike y) xs) ≡ true → list_any same xs ≡ false
  none_after y xs is apart = case (λ b. list_any same xs ≡ b → b ≡ false) (list_any same xs)
      (λ _ some. let r = any_holds same xs some in absurd (false≢true (sym (not_true (list_any (alike y) xs) apart) ∙ any_from (alike y) xs r.0 r.1 (shared y r.0 is r.2))))
      (λ _ _. refl) refl

  pub none_replaced : (x : X) (xs : List X) → list_any same xs ≡ false → map (λ y. cond (same y) x y) xs ≡ xs
  none_replaced x [] none = refl
  none_replaced x (y ∷ ys) none =
      let both = or_false (same y) (list_any same ys) none in
      λ i. ap (λ b. cond b x y) both.0 i ∷ none_replaced x ys both.1 i

  pub none_taken : (xs : List X) → list_any same xs ≡ false → without same xs ≡ xs
  none_taken [] none = refl
  none_taken (y ∷ ys) none =
      let both = or_false (same y) (list_any same ys) none in
      ap (λ b. cond (not b) (y ∷ without same ys) (without same ys)) both.0 ∙ ap (λ zs. y ∷ zs) (none_taken ys both.1)

  put_there : (x : X) (xs : List X) → all_distinct alike xs ≡ true → put same x xs ≡ put_at (place_of same xs) x xs
  put_there x [] h = refl
  put_there x (y ∷ ys) h =
      let both = and_parts (not (list_any (alike y) ys)) (all_distinct alike ys) h in
      let replaced = map (λ z. cond (same z) x z) ys in
      case (λ b. same y ≡ b → cond (b || list_any same ys) (cond b x y ∷ replaced) (y ∷ (ys ++ x ∷ [])) ≡ put_at (cond b (Some 0) (option_map suc (place_of same ys))) x (y ∷ ys)) (same y)
      (λ _ is. ap (λ zs. x ∷ zs) (none_replaced x ys (none_after y ys is both.0)))
      (λ _ _. case (λ b. cond b (y ∷ replaced) (y ∷ (ys ++ x ∷ [])) ≡ y ∷ cond b replaced (ys ++ x ∷ [])) (list_any same ys) (λ _. refl) (λ _. refl)
      ∙ ap (λ zs. y ∷ zs) (put_there x ys both.1) ∙ put_later y x ys (place_of same ys))
      refl

  without_there : (xs : List X) → all_distinct alike xs ≡ true → without same xs ≡ without_at (place_of same xs) xs
  without_there [] h = refl
  without_there (y ∷ ys) h =
      let both = and_parts (not (list_any (alike y) ys)) (all_distinct alike ys) h in
      case (λ b. same y ≡ b → cond (not b) (y ∷ without same ys) (without same ys) ≡ without_at (cond b (Some 0) (option_map suc (place_of same ys))) (y ∷ ys)) (same y)
      (λ _ is. none_taken ys (none_after y ys is both.0))
      (λ _ _. ap (λ zs. y ∷ zs) (without_there ys both.1) ∙ taken_later y ys (place_of same ys))
      refl

  -- an item that passes is the one that is found, wherever it stands
  pub found_here : (xs : List X) (i : ℕ) (x : X) → all_distinct alike xs ≡ true → slice_get xs i ≡ Some x → same x ≡ true → find same xs ≡ Some x
  found_here [] i x h there is = absurd (none-some x there)
  found_here (y ∷ ys) zero x h there is = ap (λ b. cond b (Some y) (find same ys)) (ap same (same_Some y x there) ∙ is) ∙ there
  found_here (y ∷ ys) (suc i) x h there is =
      let both = and_parts (not (list_any (alike y) ys)) (all_distinct alike ys) h in
      case (λ b. same y ≡ b → cond b (Some y) (find same ys) ≡ Some x) (same y)
      (λ _ now. absurd (false≢true (sym (none_passes same ys (none_after y ys now both.0) x (Contains-slice_get ys i x there)) ∙ is)))
      (λ _ _. found_here ys i x both.1 there is)
      refl

  pub put_first : (x : X) (xs : List X) → all_distinct alike xs ≡ true → put same x xs ≡ put_at (position same xs) x xs
  put_first x xs h = put_there x xs h ∙ ap (λ o. put_at o x xs) (sym (place_is same xs))

  pub without_first : (xs : List X) → all_distinct alike xs ≡ true → without same xs ≡ without_at (position same xs) xs
  without_first xs h = without_there xs h ∙ ap (λ o. without_at o xs) (sym (place_is same xs))

-- ---- names

module _ {X : Type 0} (named : X → List ℕ) (name : List ℕ) where
  shared_name : (a b : X) → bytes_eq (named a) name ≡ true → bytes_eq (named b) name ≡ true → bytes_eq (named b) (named a) ≡ true
  shared_name a b its other = (bytes_eq-Decides (named b) (named a)).1 ((bytes_eq-Decides (named b) name).0 other ∙ sym ((bytes_eq-Decides (named a) name).0 its))

  pub put_by_name : (x : X) (xs : List X) → all_distinct (λ a b. bytes_eq (named b) (named a)) xs ≡ true
      → put (λ y. bytes_eq (named y) name) x xs ≡ put_at (position (λ y. bytes_eq (named y) name) xs) x xs
  put_by_name = put_first (λ a b. bytes_eq (named b) (named a)) (λ y. bytes_eq (named y) name) shared_name

  pub without_by_name : (xs : List X) → all_distinct (λ a b. bytes_eq (named b) (named a)) xs ≡ true
      → without (λ y. bytes_eq (named y) name) xs ≡ without_at (position (λ y. bytes_eq (named y) name) xs) xs
  without_by_name = without_first (λ a b. bytes_eq (named b) (named a)) (λ y. bytes_eq (named y) name) shared_name

  pub found_by_name : (xs : List X) (i : ℕ) (x : X) → all_distinct (λ a b. bytes_eq (named b) (named a)) xs ≡ true → slice_get xs i ≡ Some x → bytes_eq (named x) name ≡ true
      → find (λ y. bytes_eq (named y) name) xs ≡ Some x
  found_by_name = found_here (λ a b. bytes_eq (named b) (named a)) (λ y. bytes_eq (named y) name) shared_name

-- ---- ids

module _ {X : Type 0} (numbered : X → ℤ) (id : ℤ) where
  shared_id : (a b : X) → int_eq (numbered a) id ≡ true → int_eq (numbered b) id ≡ true → int_eq (numbered a) (numbered b) ≡ true
  shared_id a b its other = (Decides-int_eq (numbered a) (numbered b)).1 ((Decides-int_eq (numbered a) id).0 its ∙ sym ((Decides-int_eq (numbered b) id).0 other))

  pub put_by_id : (x : X) (xs : List X) → all_distinct (λ a b. int_eq (numbered a) (numbered b)) xs ≡ true
      → put (λ y. int_eq (numbered y) id) x xs ≡ put_at (position (λ y. int_eq (numbered y) id) xs) x xs
  put_by_id = put_first (λ a b. int_eq (numbered a) (numbered b)) (λ y. int_eq (numbered y) id) shared_id

  pub without_by_id : (xs : List X) → all_distinct (λ a b. int_eq (numbered a) (numbered b)) xs ≡ true
      → without (λ y. int_eq (numbered y) id) xs ≡ without_at (position (λ y. int_eq (numbered y) id) xs) xs
  without_by_id = without_first (λ a b. int_eq (numbered a) (numbered b)) (λ y. int_eq (numbered y) id) shared_id
