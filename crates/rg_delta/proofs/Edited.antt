-- What edits make of a list: what they make of each of its items, and then the items that they add.
use Rattle.std.proofs.Common.{◌≡◌, ◌||◌, ◌==◌, ◌++◌, ◌+◌, ◌<◌, get_or, take, ℕ, ℤ, suc, Bool, true, false, not, cond, List, [], ◌∷◌, length, map, filter, fold, Option, Some, None, option_and_then, refl, sym, ap, ◌∙◌, append-nil, append_assoc}
use Rattle.std.proofs.lemmas.List.Elements.{filter_map-append}
use Rattle.std.proofs.lemmas.List.Sums.{fold-append}
use Rattle.std.specs.List.{cons_option, filter_map, list_any}
use Rattle.rg_base.proofs.Lists.{take_next}
use Rattle.rg_cmd.specs.Kinds.{created, deleted, updated}
use Rattle.rg_cmd.specs.Lists.{put, without}
use Rattle.rg_delta.specs.Edits.{Edit}
use Rattle.rg_delta.specs.Editing.{became, births, born, edited, grown, has_id_of, is_birth}

module _ {X Y : Type 0} (h : X → Option Y) where
  of_mapped : (f : X → X) (xs : List X) → filter_map h (map f xs) ≡ filter_map (λ y. h (f y)) xs
  of_mapped f [] = refl
  of_mapped f (x ∷ xs) = ap (cons_option (h (f x))) (of_mapped f xs)

  of_others : (same : X → Bool) (xs : List X) → filter_map h (filter (λ y. not (same y)) xs) ≡ filter_map (λ y. option_and_then h (cond (same y) None (Some y))) xs
  of_others same [] = refl
  of_others same (y ∷ ys) = at (same y) (of_others same ys) where
    at : (b : Bool) → filter_map h (filter (λ y. not (same y)) ys) ≡ filter_map (λ y. option_and_then h (cond (same y) None (Some y))) ys
        → filter_map h (cond (not b) (y ∷ filter (λ y. not (same y)) ys) (filter (λ y. not (same y)) ys))
        ≡ cons_option (option_and_then h (cond b None (Some y))) (filter_map (λ y. option_and_then h (cond (same y) None (Some y))) ys)
    at true e = e
    at false e = ap (cons_option (h y)) e

  of_absent : (same : X → Bool) (x : X) (xs : List X) → list_any same xs ≡ false → filter_map h xs ≡ filter_map (λ y. h (cond (same y) x y)) xs
  of_absent same x [] none = refl
  of_absent same x (y ∷ ys) none = at (same y) none (of_absent same x ys) where
    at : (b : Bool) → (b || list_any same ys) ≡ false → (list_any same ys ≡ false → filter_map h ys ≡ filter_map (λ y. h (cond (same y) x y)) ys)
        → cons_option (h y) (filter_map h ys) ≡ cons_option (h (cond b x y)) (filter_map (λ y. h (cond (same y) x y)) ys)
    at true e rest = absurd (cc)
    at false e rest = ap (cons_option (h y)) (rest e)

add_option : {X : Type 0} (xs : List X) (o : Option X) (ys : List X) → (xs ++ cons_option o []) ++ ys ≡ xs ++ cons_option o ys
add_option xs None ys = ap (λ l. l ++ ys) (append-nil xs)
add_option xs (Some x) ys = append_assoc xs (x ∷ []) ys

module _ {X : Type 0} (id_of : X → ℤ) where
  -- one edit before the others
  one_edit : (xs : List X) (e : Edit X) (es : List (Edit X)) → filter_map (became id_of es) (edited id_of xs e)
      ≡ filter_map (became id_of (e ∷ es)) xs ++ cons_option (grown id_of (is_birth id_of xs e) es e.item) []
  one_edit xs e es = by_type (e.change_type == created) (e.change_type == updated) (e.change_type == deleted) where
    h : X → Option X
    h = became id_of es

    same : X → Bool
    same = has_id_of id_of e.item

    by_type : (a b c : Bool) → filter_map h (cond a (xs ++ e.item ∷ []) (cond b (put same e.item xs) (cond c (without same xs) xs)))
        ≡ filter_map (λ y. option_and_then h (cond a (Some y) (cond b (Some (cond (same y) e.item y)) (cond c (cond (same y) None (Some y)) (Some y))))) xs
        ++ cons_option (cond (cond a true (cond b (not (list_any same xs)) false)) (h e.item) None) []
    by_type true b c = filter_map-append h xs (e.item ∷ [])
    by_type false true c = if_any (list_any same xs) refl where
      if_any : (b : Bool) → list_any same xs ≡ b → filter_map h (cond b (map (λ y. cond (same y) e.item y) xs) (xs ++ e.item ∷ []))
          ≡ filter_map (λ y. h (cond (same y) e.item y)) xs ++ cons_option (cond (not b) (h e.item) None) []
      if_any true is = of_mapped h (λ y. cond (same y) e.item y) xs ∙ sym (append-nil _)
      if_any false is = filter_map-append h xs (e.item ∷ []) ∙ ap (λ l. l ++ cons_option (h e.item) []) (of_absent h same e.item xs is)
    by_type false false true = of_others h same xs ∙ sym (append-nil _)
    by_type false false false = sym (append-nil _)

  all_stay : (xs : List X) → filter_map (became id_of []) xs ≡ xs
  all_stay [] = refl
  all_stay (x ∷ xs) = ap (λ l. x ∷ l) (all_stay xs)

  -- the list after all edits
  pub after_edits : (xs : List X) (es : List (Edit X)) → fold (edited id_of) xs es ≡ filter_map (became id_of es) xs ++ born id_of es (births id_of xs es)
  after_edits xs [] = sym (append-nil _ ∙ all_stay xs)
  after_edits xs (e ∷ es) =
      after_edits (edited id_of xs e) es
      ∙ ap (λ l. l ++ born id_of es (births id_of (edited id_of xs e) es)) (one_edit xs e es)
      ∙ add_option (filter_map (became id_of (e ∷ es)) xs) (grown id_of (is_birth id_of xs e) es e.item) (born id_of es (births id_of (edited id_of xs e) es))

  -- one more edit at the end
  births_more : (xs : List X) (es : List (Edit X)) (e : Edit X) → births id_of xs (es ++ e ∷ []) ≡ births id_of xs es ++ is_birth id_of (fold (edited id_of) xs es) e ∷ []
  births_more xs [] e = refl
  births_more xs (d ∷ es) e = ap (λ l. is_birth id_of xs d ∷ l) (births_more (edited id_of xs d) es e)

  -- the edits up to the next one
  pub edited_next : (xs : List X) (es : List (Edit X)) (n : ℕ) (e : Edit X) → n < length es → e ≡ get_or es n e
      → fold (edited id_of) xs (take (n + 1) es) ≡ edited id_of (fold (edited id_of) xs (take n es)) e
  edited_next xs es n e within is = ap (fold (edited id_of) xs) (take_next n es e within is) ∙ fold-append (edited id_of) xs (take n es) (e ∷ [])

  pub births_next : (xs : List X) (es : List (Edit X)) (n : ℕ) (e : Edit X) → n < length es → e ≡ get_or es n e
      → births id_of xs (take (n + 1) es) ≡ births id_of xs (take n es) ++ is_birth id_of (fold (edited id_of) xs (take n es)) e ∷ []
  births_next xs es n e within is = ap (births id_of xs) (take_next n es e within is) ∙ births_more xs (take n es) e

  pub length-births : (xs : List X) (es : List (Edit X)) → length (births id_of xs es) ≡ length es
  length-births xs [] = refl
  length-births xs (e ∷ es) = ap suc (length-births (edited id_of xs e) es)
