-- The ids of a list after an edit.
use Rattle.std.proofs.Common.{◌≡◌, ◌||◌, ◌++◌, ℤ, Bool, true, false, not, cond, List, [], ◌∷◌, map, filter, Option, Some, refl, sym, ap, ◌∙◌}
use Rattle.std.proofs.lemmas.Bool.Decides.{Decides-int_eq}
use Rattle.std.proofs.lemmas.List.Folds.{list_any-append}
use Rattle.std.specs.BTreeMap.{BTreeMap, get}
use Rattle.std.specs.List.{list_any}
use Rattle.std.specs.Ordering.{int_cmp, int_eq}
use Rattle.rg_cmd.specs.Kinds.{updated, deleted}
use Rattle.rg_cmd.specs.Lists.{put, without}
use Rattle.rg_delta.specs.Edits.{Edit, changed}
use Rattle.rg_delta.specs.Editing.{AreIds, edited, has_id_of, is_marked}

or_last : (a b : Bool) → (a || (b || false)) ≡ cond b true a
or_last true true = refl
or_last true false = refl
or_last false true = refl
or_last false false = refl

marked_if : (b mark : Bool) (o : Option Bool) → is_marked (cond b (Some mark) o) ≡ cond b mark (is_marked o)
marked_if true mark o = refl
marked_if false mark o = refl

module _ {X : Type 0} (p q : X → Bool) where
  -- none is left of those that were taken away
  none_left : (xs : List X) → list_any p (filter (λ y. not (p y)) xs) ≡ false
  none_left [] = refl
  none_left (y ∷ ys) = at (p y) refl (none_left ys) where
    at : (b : Bool) → p y ≡ b → list_any p (filter (λ z. not (p z)) ys) ≡ false → list_any p (cond (not b) (y ∷ filter (λ z. not (p z)) ys) (filter (λ z. not (p z)) ys)) ≡ false
    at true is rest = rest
    at false is rest = ap (λ b. b || list_any p (filter (λ z. not (p z)) ys)) is ∙ rest

  -- all others are
  others_left : ((y : X) → p y ≡ true → q y ≡ false) → (xs : List X) → list_any q (filter (λ y. not (p y)) xs) ≡ list_any q xs
  others_left apart [] = refl
  others_left apart (y ∷ ys) = at (p y) refl (others_left apart ys) where
    at : (b : Bool) → p y ≡ b → list_any q (filter (λ z. not (p z)) ys) ≡ list_any q ys → list_any q (cond (not b) (y ∷ filter (λ z. not (p z)) ys) (filter (λ z. not (p z)) ys)) ≡ (q y || list_any q ys)
    at true is rest = rest ∙ ap (λ b. b || list_any q ys) (sym (apart y is))
    at false is rest = ap (λ b. q y || b) rest

  -- what replaces them passes as they do
  replaced_pass : (x : X) → ((y : X) → p y ≡ true → q x ≡ q y) → (xs : List X) → list_any q (map (λ y. cond (p y) x y) xs) ≡ list_any q xs
  replaced_pass x alike [] = refl
  replaced_pass x alike (y ∷ ys) = at (p y) refl ∙ ap (λ b. q y || b) (replaced_pass x alike ys) where
    at : (b : Bool) → p y ≡ b → (q (cond b x y) || list_any q (map (λ z. cond (p z) x z) ys)) ≡ (q y || list_any q (map (λ z. cond (p z) x z) ys))
    at true is = ap (λ b. b || list_any q (map (λ z. cond (p z) x z) ys)) (alike y is)
    at false is = refl

module _ {X : Type 0} (id_of : X → ℤ) where
  abbrev among : List X → ℤ → Bool
  among xs id = list_any (λ x. int_eq (id_of x) id) xs

  appended : (xs : List X) (x : X) (id : ℤ) → among (xs ++ x ∷ []) id ≡ cond (int_eq (id_of x) id) true (among xs id)
  appended xs x id = list_any-append (λ y. int_eq (id_of y) id) xs (x ∷ []) ∙ or_last (among xs id) (int_eq (id_of x) id)

  there : (xs : List X) (x : X) (id : ℤ) → among xs (id_of x) ≡ true → among xs id ≡ cond (int_eq (id_of x) id) true (among xs id)
  there xs x id some = at (int_eq (id_of x) id) refl where
    at : (b : Bool) → int_eq (id_of x) id ≡ b → among xs id ≡ cond b true (among xs id)
    at true is = ap (among xs) (sym ((Decides-int_eq (id_of x) id).0 is)) ∙ some
    at false is = refl

  placed : (xs : List X) (x : X) (id : ℤ) → among (put (has_id_of id_of x) x xs) id ≡ cond (int_eq (id_of x) id) true (among xs id)
  placed xs x id = at (among xs (id_of x)) refl where
    alike : (y : X) → has_id_of id_of x y ≡ true → int_eq (id_of x) id ≡ int_eq (id_of y) id
    alike y is = ap (λ i. int_eq i id) (sym ((Decides-int_eq (id_of y) (id_of x)).0 is))

    at : (b : Bool) → among xs (id_of x) ≡ b → among (cond b (map (λ y. cond (has_id_of id_of x y) x y) xs) (xs ++ x ∷ [])) id ≡ cond (int_eq (id_of x) id) true (among xs id)
    at true is = replaced_pass (has_id_of id_of x) (λ y. int_eq (id_of y) id) x alike xs ∙ there xs x id is
    at false is = appended xs x id

  taken : (xs : List X) (x : X) (id : ℤ) → among (without (has_id_of id_of x) xs) id ≡ cond (int_eq (id_of x) id) false (among xs id)
  taken xs x id = at (int_eq (id_of x) id) refl where
    at : (b : Bool) → int_eq (id_of x) id ≡ b → among (without (has_id_of id_of x) xs) id ≡ cond b false (among xs id)
    at true is = ap (among (without (has_id_of id_of x) xs)) (sym ((Decides-int_eq (id_of x) id).0 is)) ∙ none_left (has_id_of id_of x) (has_id_of id_of x) xs
    at false is = others_left (has_id_of id_of x) (λ y. int_eq (id_of y) id)
        (λ y same. ap (λ i. int_eq i id) ((Decides-int_eq (id_of y) (id_of x)).0 same) ∙ is) xs

  module _ (ids new : BTreeMap ℤ Bool) (xs : List X) (e : Edit X) (are : AreIds id_of ids xs) where
    -- the id of the edit's item has this mark, and the others have theirs
    abbrev Marks : Bool → Type 0
    Marks mark = (id : ℤ) → get int_cmp new id ≡ cond (int_eq (id_of e.item) id) (Some mark) (get int_cmp ids id)

    marks_are : (mark : Bool) → Marks mark → (id : ℤ) → is_marked (get int_cmp new id) ≡ cond (int_eq (id_of e.item) id) mark (among xs id)
    marks_are mark sets id = ap is_marked (sets id) ∙ marked_if (int_eq (id_of e.item) id) mark (get int_cmp ids id) ∙ ap (cond (int_eq (id_of e.item) id) mark) (are id)

    pub marked_by_update : e.change_type ≡ updated → Marks true → AreIds id_of new (edited id_of xs e)
    marked_by_update is sets id = marks_are true sets id ∙ sym (placed xs e.item id) ∙ ap (λ t. among (changed (has_id_of id_of e.item) t e.item xs) id) (sym is)

    pub marked_by_delete : e.change_type ≡ deleted → Marks false → AreIds id_of new (edited id_of xs e)
    marked_by_delete is sets id = marks_are false sets id ∙ sym (taken xs e.item id) ∙ ap (λ t. among (changed (has_id_of id_of e.item) t e.item xs) id) (sym is)
