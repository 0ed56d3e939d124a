-- What becomes of items with one edit more before the others.
use Rattle.std.proofs.Common.{◌≡◌, ◌<◌, ◌≤◌, ◌+◌, ◌-◌, ℕ, ℤ, Bool, true, false, cond, List, [], ◌∷◌, ◌++◌, length, drop, get_or, Option, Some, None, option_map, option_and_then, refl, sym, ap, ◌∙◌, arith}
use Rattle.std.proofs.lemmas.Bool.{false_from_ne_true, true≢false}
use Rattle.std.proofs.lemmas.Bool.Decides.{Decides-int_eq}
use Rattle.std.proofs.lemmas.List.Elements.{filter_map-append}
use Rattle.std.proofs.lemmas.Option.{slice_get_read}
use Rattle.std.specs.BTreeMap.{BTreeMap, get}
use Rattle.std.specs.List.{cons_option, filter_map}
use Rattle.std.specs.Ordering.{int_cmp, int_eq}
use Rattle.rg_base.proofs.Lists.{drop_next}
use Rattle.rg_cmd.specs.Kinds.{updated}
use Rattle.rg_delta.specs.Edits.{Edit}
use Rattle.rg_delta.specs.Editing.{AreFates, became, born, fate, grown, has_id_of, turned}

module _ {X : Type 0} (id_of : X → ℤ) (es : List (Edit X)) where
  module _ (n : ℕ) (e : Edit X) (within : n < length es) (is : e ≡ get_or es n e) (fates new : BTreeMap ℤ (Option ℕ)) where
    -- an update of an id that no later edit speaks of
    pub fates_by_update : e.change_type ≡ updated → get int_cmp fates (id_of e.item) ≡ None
        → ((id : ℤ) → get int_cmp new id ≡ cond (int_eq (id_of e.item) id) (Some (Some n)) (get int_cmp fates id))
        → AreFates id_of es fates (drop (n + 1) es) → AreFates id_of es new (drop n es)
    fates_by_update of_update free sets are y =
        ap (λ l. became id_of l y) (drop_next n es e within is)
        ∙ ap (λ t. option_and_then (became id_of (drop (n + 1) es)) (turned id_of (record { change_type = t; item = e.item }) y)) of_update
        ∙ at (has_id_of id_of e.item y) refl
        ∙ ap (λ o. fate id_of es o y) (sym (sets (id_of y)))
      where
        at : (b : Bool) → has_id_of id_of e.item y ≡ b → became id_of (drop (n + 1) es) (cond b e.item y) ≡ fate id_of es (cond (int_eq (id_of e.item) (id_of y)) (Some (Some n)) (get int_cmp fates (id_of y))) y
        at true same =
            let here : int_eq (id_of e.item) (id_of y) ≡ true = (Decides-int_eq (id_of e.item) (id_of y)).1 (sym ((Decides-int_eq (id_of y) (id_of e.item)).0 same)) in
            are e.item ∙ ap (λ o. fate id_of es o e.item) free
            ∙ sym (ap (option_map (λ (d : Edit X). d.item)) (slice_get_read es (length es) n e refl within is))
            ∙ ap (λ b. fate id_of es (cond b (Some (Some n)) (get int_cmp fates (id_of y))) y) (sym here)
        at false other =
            let away : int_eq (id_of e.item) (id_of y) ≡ false = false_from_ne_true (int_eq (id_of e.item) (id_of y))
            (λ h. true≢false (sym ((Decides-int_eq (id_of y) (id_of e.item)).1 (sym ((Decides-int_eq (id_of e.item) (id_of y)).0 h))) ∙ other)) in
            are y ∙ ap (λ b. fate id_of es (cond b (Some (Some n)) (get int_cmp fates (id_of y))) y) (sym away)

  -- what is born from the edit before this place on
  pub born_before : (marks : List Bool) (n : ℕ) (e : Edit X) (mark : Bool) → length marks ≡ length es → 0 < n → n ≤ length es
      → e ≡ get_or es (n - 1) e → mark ≡ get_or marks (n - 1) mark
      → born id_of (drop (n - 1) es) (drop (n - 1) marks) ≡ cons_option (grown id_of mark (drop n es) e.item) (born id_of (drop n es) (drop n marks))
  born_before marks n e mark long some within is marked =
      let next : n - 1 + 1 ≡ n = omega arith in
      (λ i. born id_of (drop_next (n - 1) es e (omega arith) is i) (drop_next (n - 1) marks mark (omega (arith, long)) marked i))
      ∙ ap (λ k. cons_option (grown id_of mark (drop k es) e.item) (born id_of (drop k es) (drop k marks))) next

-- what is kept with one more item
pub kept_next : {X Y : Type 0} (h : X → Option Y) (ys : List X) (y : X) {o : Option Y} → h y ≡ o → filter_map h (ys ++ y ∷ []) ≡ filter_map h ys ++ cons_option o []
kept_next h ys y e = filter_map-append h ys (y ∷ []) ∙ ap (λ o. filter_map h ys ++ cons_option o []) e
