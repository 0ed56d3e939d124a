-- A plan stands for the list after its edits.
use Rattle.std.proofs.Common.{◌≡◌, ◌&&◌, ◌||◌, ◌==◌, ◌++◌, ℤ, Bool, true, false, not, cond, List, [], ◌∷◌, map, fold, Some, refl, sym, ap, ◌∙◌, append-nil, append_assoc}
use Rattle.std.proofs.lemmas.Bool.Decides.{Decides-int_eq}
use Rattle.std.proofs.lemmas.List.{map-append}
use Rattle.std.proofs.lemmas.List.Elements.{filter-append}
use Rattle.std.proofs.lemmas.List.Folds.{list_any-append}
use Rattle.std.specs.List.{cons_option, list_any}
use Rattle.std.specs.Ordering.{int_eq}
use Rattle.rg_cmd.specs.Kinds.{created, deleted, updated}
use Rattle.rg_cmd.specs.Lists.{put, without}
use Rattle.rg_delta.specs.Edits.{Edit}
use Rattle.rg_delta.specs.Editing.{edited, has_id_of}
use Rattle.rg_policy_sets.specs.declared.plan.Fate.{Fate}
use Rattle.rg_policy_sets.specs.declared.plan.Fate.TheVariants.{Stays, Goes, Becomes}
use Rattle.rg_policy_sets.specs.declared.plan.Place.{Place}
use Rattle.rg_policy_sets.specs.Plan.{AllSuit, Planned, Suits, at_first, cleared, has_there, is_taken, left_of, or_new, plan_of, planned_put, planned_without, renewed, standing, stood, unmoved, with_edit}

and_true : (b : Bool) → (b && true) ≡ b
and_true true = refl
and_true false = refl

pub and_false : (b : Bool) → (b && false) ≡ false
and_false true = refl
and_false false = refl

module _ {X : Type 0} (id_of : X → ℤ) (x : X) where
  -- the place of a thing has the id of this one as the thing has
  there : (p : Place X) (y : X) → p.id ≡ id_of y → int_eq p.id (id_of x) ≡ int_eq (id_of y) (id_of x)
  there p y is = ap (λ i. int_eq i (id_of x)) is

  any_left : (ps : List (Place X)) (xs : List X) → AllSuit id_of ps xs → list_any (has_id_of id_of x) (left_of ps xs) ≡ list_any (has_there id_of x) ps
  any_left [] [] s = refl
  any_left [] (y ∷ ys) s = absurd s
  any_left (p ∷ ps) [] s = absurd s
  any_left (p ∷ ps) (y ∷ ys) s = at p.fate s.1 (any_left ps ys s.2) where
    at : (f : Fate X) → Suits id_of p.id f → list_any (has_id_of id_of x) (left_of ps ys) ≡ list_any (has_there id_of x) ps
        → list_any (has_id_of id_of x) (cons_option (stood f y) (left_of ps ys)) ≡ ((int_eq p.id (id_of x) && is_taken f) || list_any (has_there id_of x) ps)
    at Stays fits rest = λ i. sym (and_true (int_eq p.id (id_of x)) ∙ there p y s.0) i || rest i
    at Goes fits rest = rest ∙ ap (λ b. b || list_any (has_there id_of x) ps) (sym (and_false (int_eq p.id (id_of x))))
    at (Becomes z) fits rest = λ i. sym (and_true (int_eq p.id (id_of x)) ∙ there p z (sym fits)) i || rest i

  put_left : (ps : List (Place X)) (xs : List X) → AllSuit id_of ps xs → map (or_new id_of x) (left_of ps xs) ≡ left_of (map (renewed id_of x) ps) xs
  put_left [] [] s = refl
  put_left [] (y ∷ ys) s = absurd s
  put_left (p ∷ ps) [] s = absurd s
  put_left (p ∷ ps) (y ∷ ys) s = at p.fate s.1 (put_left ps ys s.2) where
    rest_left : List X
    rest_left = left_of (map (renewed id_of x) ps) ys

    one : (b : Bool) (z : X) (f : Fate X) → stood f y ≡ Some z → cond b x z ∷ rest_left ≡ cons_option (stood (cond (b && true) (Becomes x) f) y) rest_left
    one true z f is = refl
    one false z f is = ap (λ o. cons_option o rest_left) (sym is)

    none : (b : Bool) → rest_left ≡ cons_option (stood (cond (b && false) (Becomes x) Goes) y) rest_left
    none true = refl
    none false = refl

    at : (f : Fate X) → Suits id_of p.id f → map (or_new id_of x) (left_of ps ys) ≡ rest_left
        → map (or_new id_of x) (cons_option (stood f y) (left_of ps ys)) ≡ cons_option (stood (cond (int_eq p.id (id_of x) && is_taken f) (Becomes x) f) y) rest_left
    at Stays fits rest = (λ i. cond (sym (there p y s.0) i) x y ∷ rest i) ∙ one (int_eq p.id (id_of x)) y Stays refl
    at Goes fits rest = rest ∙ none (int_eq p.id (id_of x))
    at (Becomes z) fits rest = (λ i. cond (sym (there p z (sym fits)) i) x z ∷ rest i) ∙ one (int_eq p.id (id_of x)) z (Becomes z) refl

  clear_left : (ps : List (Place X)) (xs : List X) → AllSuit id_of ps xs → without (has_id_of id_of x) (left_of ps xs) ≡ left_of (map (cleared id_of x) ps) xs
  clear_left [] [] s = refl
  clear_left [] (y ∷ ys) s = absurd s
  clear_left (p ∷ ps) [] s = absurd s
  clear_left (p ∷ ps) (y ∷ ys) s = at p.fate s.1 (clear_left ps ys s.2) where
    rest_left : List X
    rest_left = left_of (map (cleared id_of x) ps) ys

    one : (b : Bool) (z : X) (f : Fate X) → stood f y ≡ Some z → cond (not b) (z ∷ rest_left) rest_left ≡ cons_option (stood (cond b Goes f) y) rest_left
    one true z f is = refl
    one false z f is = ap (λ o. cons_option o rest_left) (sym is)

    none : (b : Bool) → rest_left ≡ cons_option (stood (cond b Goes Goes) y) rest_left
    none true = refl
    none false = refl

    at : (f : Fate X) → Suits id_of p.id f → without (has_id_of id_of x) (left_of ps ys) ≡ rest_left
        → without (has_id_of id_of x) (cons_option (stood f y) (left_of ps ys)) ≡ cons_option (stood (cond (int_eq p.id (id_of x)) Goes f) y) rest_left
    at Stays fits rest = (λ i. cond (not (sym (there p y s.0) i)) (y ∷ rest i) (rest i)) ∙ one (int_eq p.id (id_of x)) y Stays refl
    at Goes fits rest = rest ∙ none (int_eq p.id (id_of x))
    at (Becomes z) fits rest = (λ i. cond (not (sym (there p z (sym fits)) i)) (z ∷ rest i) (rest i)) ∙ one (int_eq p.id (id_of x)) z (Becomes z) refl

  -- the places suit as before
  suit_renewed : (ps : List (Place X)) (xs : List X) → AllSuit id_of ps xs → AllSuit id_of (map (renewed id_of x) ps) xs
  suit_renewed [] [] s = s
  suit_renewed [] (y ∷ ys) s = s
  suit_renewed (p ∷ ps) [] s = s
  suit_renewed (p ∷ ps) (y ∷ ys) s = (s.0, at (int_eq p.id (id_of x)) refl (is_taken p.fate), suit_renewed ps ys s.2) where
    at : (b : Bool) → int_eq p.id (id_of x) ≡ b → (c : Bool) → Suits id_of p.id (cond (b && c) (Becomes x) p.fate)
    at true is true = sym ((Decides-int_eq p.id (id_of x)).0 is)
    at true is false = s.1
    at false is c = s.1

  suit_cleared : (ps : List (Place X)) (xs : List X) → AllSuit id_of ps xs → AllSuit id_of (map (cleared id_of x) ps) xs
  suit_cleared [] [] s = s
  suit_cleared [] (y ∷ ys) s = s
  suit_cleared (p ∷ ps) [] s = s
  suit_cleared (p ∷ ps) (y ∷ ys) s = (s.0, at (int_eq p.id (id_of x)), suit_cleared ps ys s.2) where
    at : (b : Bool) → Suits id_of p.id (cond b Goes p.fate)
    at true = tt
    at false = s.1

module _ {X : Type 0} (id_of : X → ℤ) (xs : List X) where
  after_put : (p : Planned X) (x : X) → AllSuit id_of p.places xs → standing (planned_put id_of x p) xs ≡ put (has_id_of id_of x) x (standing p xs)
  after_put p x s =
      at (list_any (has_there id_of x) p.places || list_any (has_id_of id_of x) p.added)
      ∙ ap (λ b. cond b (map (or_new id_of x) (standing p xs)) (standing p xs ++ x ∷ []))
      (sym (list_any-append (has_id_of id_of x) (left_of p.places xs) p.added ∙ ap (λ b. b || list_any (has_id_of id_of x) p.added) (any_left id_of x p.places xs s)))
    where
      at : (b : Bool)
          → standing (cond b (record { places = map (renewed id_of x) p.places; added = map (or_new id_of x) p.added }) (record { places = p.places; added = p.added ++ x ∷ [] })) xs
          ≡ cond b (map (or_new id_of x) (standing p xs)) (standing p xs ++ x ∷ [])
      at true = ap (λ l. l ++ map (or_new id_of x) p.added) (sym (put_left id_of x p.places xs s)) ∙ sym (map-append (or_new id_of x) (left_of p.places xs) p.added)
      at false = sym (append_assoc (left_of p.places xs) p.added (x ∷ []))

  after_without : (p : Planned X) (x : X) → AllSuit id_of p.places xs → standing (planned_without id_of x p) xs ≡ without (has_id_of id_of x) (standing p xs)
  after_without p x s =
      ap (λ l. l ++ without (has_id_of id_of x) p.added) (sym (clear_left id_of x p.places xs s))
      ∙ sym (filter-append (λ y. not (has_id_of id_of x y)) (left_of p.places xs) p.added)

  pub after_edit : (p : Planned X) (e : Edit X) → AllSuit id_of p.places xs → standing (with_edit id_of p e) xs ≡ edited id_of (standing p xs) e
  after_edit p e s = at (e.change_type == created) (e.change_type == updated) (e.change_type == deleted) where
    x : X
    x = e.item

    at : (a b c : Bool)
        → standing (cond a (record { places = p.places; added = p.added ++ x ∷ [] }) (cond b (planned_put id_of x p) (cond c (planned_without id_of x p) p))) xs
        ≡ cond a (standing p xs ++ x ∷ []) (cond b (put (has_id_of id_of x) x (standing p xs)) (cond c (without (has_id_of id_of x) (standing p xs)) (standing p xs)))
    at true b c = sym (append_assoc (left_of p.places xs) p.added (x ∷ []))
    at false true c = after_put p x s
    at false false true = after_without p x s
    at false false false = refl

  pub suit_edit : (p : Planned X) (e : Edit X) → AllSuit id_of p.places xs → AllSuit id_of (with_edit id_of p e).places xs
  suit_edit p e s = at (e.change_type == created) (e.change_type == updated) (e.change_type == deleted) where
    x : X
    x = e.item

    if_put : (b : Bool) → AllSuit id_of (cond {A = Planned X} b (record { places = map (renewed id_of x) p.places; added = map (or_new id_of x) p.added }) (record { places = p.places; added = p.added ++ x ∷ [] })).places xs
    if_put true = suit_renewed id_of x p.places xs s
    if_put false = s

    at : (a b c : Bool)
        → AllSuit id_of (cond {A = Planned X} a (record { places = p.places; added = p.added ++ x ∷ [] }) (cond b (planned_put id_of x p) (cond c (planned_without id_of x p) p))).places xs
    at true b c = s
    at false true c = if_put (list_any (has_there id_of x) p.places || list_any (has_id_of id_of x) p.added)
    at false false true = suit_cleared id_of x p.places xs s
    at false false false = s

  pub after_edits : (es : List (Edit X)) (p : Planned X) → AllSuit id_of p.places xs → standing (fold (with_edit id_of) p es) xs ≡ fold (edited id_of) (standing p xs) es
  after_edits [] p s = refl
  after_edits (e ∷ es) p s = after_edits es (with_edit id_of p e) (suit_edit p e s) ∙ ap (λ l. fold (edited id_of) l es) (after_edit p e s)

module _ {X : Type 0} (id_of : X → ℤ) where
  pub suit_first : (xs : List X) → AllSuit id_of (at_first (map id_of xs)).places xs
  suit_first [] = tt
  suit_first (x ∷ xs) = (refl, tt, suit_first xs)

  first_left : (xs : List X) → left_of (map unmoved (map id_of xs)) xs ≡ xs
  first_left [] = refl
  first_left (x ∷ xs) = ap (λ l. x ∷ l) (first_left xs)

  pub stands_first : (xs : List X) → standing (at_first (map id_of xs)) xs ≡ xs
  stands_first xs = append-nil (left_of (map unmoved (map id_of xs)) xs) ∙ first_left xs

  suits_on : (xs : List X) (es : List (Edit X)) (p : Planned X) → AllSuit id_of p.places xs → AllSuit id_of (fold (with_edit id_of) p es).places xs
  suits_on xs [] p s = s
  suits_on xs (e ∷ es) p s = suits_on xs es (with_edit id_of p e) (suit_edit id_of xs p e s)

  pub suit_all : (xs : List X) (es : List (Edit X)) → AllSuit id_of (plan_of id_of (map id_of xs) es).places xs
  suit_all xs es = suits_on xs es (at_first (map id_of xs)) (suit_first xs)

  -- the plan of the edits stands for the list after them
  pub plan_stands : (xs : List X) (es : List (Edit X)) → standing (plan_of id_of (map id_of xs) es) xs ≡ fold (edited id_of) xs es
  plan_stands xs es = after_edits id_of xs es (at_first (map id_of xs)) (suit_first xs) ∙ ap (λ l. fold (edited id_of) l es) (stands_first xs)
