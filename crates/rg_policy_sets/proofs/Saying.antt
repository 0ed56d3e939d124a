-- What edits say of ids, spread over the things of these ids, is their plan.
use Rattle.std.proofs.Common.{◌≡◌, ◌&&◌, ◌||◌, ◌==◌, ◌++◌, ℤ, Bool, true, false, cond, List, [], ◌∷◌, map, fold, refl, sym, ap, ◌∙◌}
use Rattle.std.proofs.lemmas.List.Sums.{fold-append}
use Rattle.std.specs.List.{list_any}
use Rattle.std.specs.Ordering.{int_eq}
use Rattle.rg_cmd.specs.Kinds.{created, deleted, updated}
use Rattle.rg_cmd.specs.Lists.{without}
use Rattle.rg_delta.specs.Edits.{Edit}
use Rattle.rg_delta.specs.Editing.{has_id_of}
use Rattle.rg_policy_sets.specs.declared.plan.Fate.{Fate}
use Rattle.rg_policy_sets.specs.declared.plan.Fate.TheVariants.{Stays, Goes, Becomes}
use Rattle.rg_policy_sets.specs.declared.plan.Place.{Place}
use Rattle.rg_policy_sets.specs.Plan.{Planned, at_first, cleared, fate_of, has_there, is_taken, or_new, place_for, plan_of, planned_put, planned_without, renewed, said_edit, said_of, said_put, said_renewed, said_without, spread, with_edit}
use Rattle.rg_policy_sets.proofs.Planning.{and_false}
use Rattle.rg_policy_sets.proofs.Rising.{same_number}

-- the last that is said of an id counts
fate_more : {X : Type 0} (said : List (Place X)) (p : Place X) (i : ℤ) → fate_of (said ++ p ∷ []) i ≡ cond (int_eq i p.id) p.fate (fate_of said i)
fate_more {X = X} said p i = fold-append (λ (fate : Fate X) (q : Place X). cond (int_eq i q.id) q.fate fate) Stays said (p ∷ [])

module _ {X : Type 0} (id_of : X → ℤ) (x : X) (said : List (Place X)) where
  same_taken : (i : ℤ) → int_eq i (id_of x) ≡ true → is_taken (fate_of said i) ≡ is_taken (fate_of said (id_of x))
  same_taken i e = ap (λ (k : ℤ). is_taken (fate_of said k)) (same_number i (id_of x) e)

  any_there : (ids : List ℤ) → list_any (has_there id_of x) (map (place_for said) ids) ≡ (is_taken (fate_of said (id_of x)) && list_any (λ i. int_eq i (id_of x)) ids)
  any_there [] = sym (and_false (is_taken (fate_of said (id_of x))))
  any_there (i ∷ ids) =
      ap (λ b. (int_eq i (id_of x) && is_taken (fate_of said i)) || b) (any_there ids)
      ∙ at (int_eq i (id_of x)) (is_taken (fate_of said i)) (is_taken (fate_of said (id_of x))) (list_any (λ i. int_eq i (id_of x)) ids) (same_taken i) where
        at : (b s t r : Bool) → (b ≡ true → s ≡ t) → ((b && s) || (t && r)) ≡ (t && (b || r))
        at true s true r e = ap (λ q. q || r) (e refl)
        at true s false r e = ap (λ q. q || false) (e refl)
        at false s t r e = refl

  renewed_all : (ids : List ℤ) → map (renewed id_of x) (map (place_for said) ids) ≡ map (place_for (said_renewed id_of x said)) ids
  renewed_all [] = refl
  renewed_all (i ∷ ids) = λ j. record { id = i; fate = one j } ∷ renewed_all ids j where
    more : List (Place X)
    more = said ++ record { id = id_of x; fate = Becomes x } ∷ []

    at : (t b s : Bool) (f : Fate X) → (b ≡ true → s ≡ t) → cond (b && s) (Becomes x) f ≡ cond t (cond b (Becomes x) f) f
    at true true s f e = ap (λ q. cond q (Becomes x) f) (e refl)
    at true false s f e = refl
    at false true s f e = ap (λ q. cond q (Becomes x) f) (e refl)
    at false false s f e = refl

    later : (t : Bool) → cond t (cond (int_eq i (id_of x)) (Becomes x) (fate_of said i)) (fate_of said i) ≡ fate_of (cond t more said) i
    later true = sym (fate_more said (record { id = id_of x; fate = Becomes x }) i)
    later false = refl

    one : cond (int_eq i (id_of x) && is_taken (fate_of said i)) (Becomes x) (fate_of said i) ≡ fate_of (said_renewed id_of x said) i
    one =
        at (is_taken (fate_of said (id_of x))) (int_eq i (id_of x)) (is_taken (fate_of said i)) (fate_of said i) (same_taken i)
        ∙ later (is_taken (fate_of said (id_of x)))

  cleared_all : (ids : List ℤ) → map (cleared id_of x) (map (place_for said) ids) ≡ map (place_for (said ++ record { id = id_of x; fate = Goes } ∷ [])) ids
  cleared_all [] = refl
  cleared_all (i ∷ ids) = λ j. record { id = i; fate = sym (fate_more said (record { id = id_of x; fate = Goes }) i) j } ∷ cleared_all ids j

module _ {X : Type 0} (id_of : X → ℤ) (ids : List ℤ) where
  put_spread : (x : X) (p : Planned X) → spread ids (said_put id_of ids x p) ≡ planned_put id_of x (spread ids p)
  put_spread x p =
      at (is_taken (fate_of p.places (id_of x)) && list_any (λ i. int_eq i (id_of x)) ids || list_any (has_id_of id_of x) p.added)
      ∙ (λ j. cond (sym (any_there id_of x p.places ids) j || list_any (has_id_of id_of x) p.added)
      (record { places = sym (renewed_all id_of x p.places ids) j; added = map (or_new id_of x) p.added })
      (record { places = map (place_for p.places) ids; added = p.added ++ x ∷ [] })) where
        at : (b : Bool)
            → spread ids (cond b (record { places = said_renewed id_of x p.places; added = map (or_new id_of x) p.added }) (record { places = p.places; added = p.added ++ x ∷ [] }))
            ≡ cond b (record { places = map (place_for (said_renewed id_of x p.places)) ids; added = map (or_new id_of x) p.added })
            (record { places = map (place_for p.places) ids; added = p.added ++ x ∷ [] })
        at true = refl
        at false = refl

  without_spread : (x : X) (p : Planned X) → spread ids (said_without id_of x p) ≡ planned_without id_of x (spread ids p)
  without_spread x p = λ j. record { places = sym (cleared_all id_of x p.places ids) j; added = without (has_id_of id_of x) p.added }

  edit_spread : (p : Planned X) (e : Edit X) → spread ids (said_edit id_of ids p e) ≡ with_edit id_of (spread ids p) e
  edit_spread p e =
      at (e.change_type == created) (e.change_type == updated) (e.change_type == deleted)
      (record { places = p.places; added = p.added ++ e.item ∷ [] }) (said_put id_of ids e.item p) (said_without id_of e.item p) p
      ∙ (λ j. cond (e.change_type == created) (record { places = map (place_for p.places) ids; added = p.added ++ e.item ∷ [] })
      (cond (e.change_type == updated) (put_spread e.item p j) (cond (e.change_type == deleted) (without_spread e.item p j) (spread ids p)))) where
        at : (b c d : Bool) (u v w z : Planned X) → spread ids (cond b u (cond c v (cond d w z))) ≡ cond b (spread ids u) (cond c (spread ids v) (cond d (spread ids w) (spread ids z)))
        at true c d u v w z = refl
        at false true d u v w z = refl
        at false false true u v w z = refl
        at false false false u v w z = refl

  said_from : (es : List (Edit X)) (p q : Planned X) → spread ids p ≡ q → spread ids (fold (said_edit id_of ids) p es) ≡ fold (with_edit id_of) q es
  said_from [] p q is = is
  said_from (e ∷ es) p q is = said_from es (said_edit id_of ids p e) (with_edit id_of q e) (edit_spread p e ∙ ap (λ (r : Planned X). with_edit id_of r e) is)

  pub said_plan : (es : List (Edit X)) → spread ids (said_of id_of ids es) ≡ plan_of id_of ids es
  said_plan es = said_from es (record { places = []; added = [] }) (at_first ids) refl
