-- How much of a list its edits make and take away.
use Rattle.std.proofs.Common.{◌≡◌, ◌&&◌, ◌||◌, ◌==◌, ◌≤◌, ◌+◌, ◌++◌, ℕ, ℤ, Bool, true, false, not, cond, List, [], ◌∷◌, map, filter, fold, Option, Some, None, refl, sym, ap, subst, ◌∙◌, append_assoc, arith}
use Rattle.std.proofs.lemmas.Bool.{and_parts, eqb-true, false_from_ne_true, true≢false}
use Rattle.std.proofs.lemmas.Bool.Decides.{Decides-int_eq}
use Rattle.std.proofs.lemmas.List.Elements.{filter-append}
use Rattle.std.proofs.lemmas.List.Folds.{list_any-append}
use Rattle.std.proofs.lemmas.List.Sums.{sum_by-append, sum_by-cons}
use Rattle.std.specs.List.{cons_option, list_any, sum_by}
use Rattle.std.specs.Ordering.{int_eq}
use Rattle.rg_base.specs.Texts.{all_distinct}
use Rattle.rg_cmd.specs.Kinds.{created, deleted, updated}
use Rattle.rg_cmd.specs.Lists.{without}
use Rattle.rg_delta.specs.Edits.{Edit}
use Rattle.rg_delta.specs.Editing.{edited, has_id_of}
use Rattle.rg_policy_sets.specs.declared.plan.Fate.{Fate}
use Rattle.rg_policy_sets.specs.declared.plan.Fate.TheVariants.{Stays, Goes, Becomes}
use Rattle.rg_policy_sets.specs.declared.plan.Place.{Place}
use Rattle.rg_policy_sets.specs.Plan.{AllSuit, Planned, Suits, at_first, cleared, has_there, is_kept, is_taken, left_of, lost, made_in, or_new, plan_of, planned_put, planned_without, put_at, put_there, renewed, standing, stood, unmoved, weighed, weight_put, with_edit}
use Rattle.rg_policy_sets.proofs.Planning.{after_edit, plan_stands, stands_first, suit_all, suit_edit, suit_first}

pub or_parts : (a b : Bool) → (a || b) ≡ false → (a ≡ false) × (b ≡ false)
or_parts true b e = absurd (true≢false e)
or_parts false b e = (refl, e)

pub not_true : (b : Bool) → not b ≡ true → b ≡ false
not_true true e = absurd (true≢false (sym e))
not_true false e = refl

at_most : (b : Bool) (n : ℕ) → cond b n 0 ≤ n
at_most true n = omega arith
at_most false n = omega arith

none_or : (b : Bool) (n : ℕ) → cond b 0 n ≤ n
none_or true n = omega arith
none_or false n = omega arith

one_of : (b : Bool) (n : ℕ) → cond b 0 n + cond b n 0 ≡ n
one_of true n = omega arith
one_of false n = omega arith

module _ {X : Type 0} (id_of : X → ℤ) (w : X → ℕ) where
  abbrev any : X → List X → Bool
  any y ys = list_any (has_id_of id_of y) ys

  -- the weight of those after which none has the same id
  abbrev lasts : List X → ℕ
  lasts [] = 0
  lasts (y ∷ ys) = cond (any y ys) 0 (w y) + lasts ys

  lasts_distinct : (ys : List X) → all_distinct (has_id_of id_of) ys ≡ true → lasts ys ≡ sum_by w ys
  lasts_distinct [] d = refl
  lasts_distinct (y ∷ ys) d =
      let parts = and_parts (not (any y ys)) (all_distinct (has_id_of id_of) ys) d in
      (λ i. cond (not_true (any y ys) parts.0 i) 0 (w y) + lasts_distinct ys parts.1 i) ∙ sym (sum_by-cons w y ys)

  lasts_append : (ys : List X) (x : X) → lasts (ys ++ x ∷ []) ≤ lasts ys + w x
  lasts_append [] x = omega arith
  lasts_append (y ∷ ys) x =
      let rest = lasts_append ys x in
      let head = at (any y ys) (has_id_of id_of y x) in
      let more = ap (λ b. cond b 0 (w y)) (list_any-append (has_id_of id_of y) ys (x ∷ [])) in
      omega (arith, rest, head, more)
    where
      at : (a b : Bool) → cond (a || (b || false)) 0 (w y) ≤ cond a 0 (w y)
      at true b = omega arith
      at false true = omega arith
      at false false = omega arith

  module _ (x : X) where
    -- the new list has the old one's ids, but for this one, and its weight is that of the old one, or so much more where it has this one
    record Grows (d : ℕ) (old new : List X) : Type 0 where
      pub within : lasts new ≤ lasts old + cond (any x new) d 0
      pub others : (y : X) → int_eq (id_of x) (id_of y) ≡ false → any y new ≡ any y old

    own : int_eq (id_of x) (id_of x) ≡ true
    own = (Decides-int_eq (id_of x) (id_of x)).1 refl

    -- what has the same id has no other
    as_own : (y z : X) → int_eq (id_of y) (id_of x) ≡ true → int_eq (id_of x) (id_of z) ≡ false → int_eq (id_of y) (id_of z) ≡ false
    as_own y z same other = ap (λ i. int_eq i (id_of z)) ((Decides-int_eq (id_of y) (id_of x)).0 same) ∙ other

    flipped : (y : X) → int_eq (id_of y) (id_of x) ≡ false → int_eq (id_of x) (id_of y) ≡ false
    flipped y other = false_from_ne_true (int_eq (id_of x) (id_of y))
        (λ same. true≢false (sym ((Decides-int_eq (id_of y) (id_of x)).1 (sym ((Decides-int_eq (id_of x) (id_of y)).0 same))) ∙ other))

    grows_none : (d : ℕ) → Grows d [] []
    grows_none d = record { within = omega arith; others = λ y other. refl }

    keeps_other : (d : ℕ) (y : X) (old new : List X) → int_eq (id_of y) (id_of x) ≡ false → Grows d old new → Grows d (y ∷ old) (y ∷ new)
    keeps_other d y old new other g =
        let same_head = ap (λ b. cond b 0 (w y)) (g.others y (flipped y other)) in
        let same_tail = ap (λ b. cond (b || any x new) d 0) other in
        record {
          within = omega (arith, g.within, same_head, same_tail);
          others = λ z apart. ap (λ b. has_id_of id_of z y || b) (g.others z apart);
        }

    drops_same : (d : ℕ) (y : X) (old new : List X) → int_eq (id_of y) (id_of x) ≡ true → Grows d old new → Grows d (y ∷ old) new
    drops_same d y old new same g = record {
      within = omega (arith, g.within);
      others = λ z apart. g.others z apart ∙ ap (λ b. b || any z old) (sym (as_own y z same apart));
    }

    adds_own : (old new : List X) → Grows (w x) old new → Grows (w x) old (x ∷ new)
    adds_own old new g =
        let has = ap (λ b. cond (b || any x new) (w x) 0) own in
        let parts = one_of (any x new) (w x) in
        record {
          within = omega (arith, g.within, has, parts);
          others = λ z apart. ap (λ b. b || any z new) apart ∙ g.others z apart;
        }

    swaps_same : (y : X) (old new : List X) → int_eq (id_of y) (id_of x) ≡ true → Grows (w x) old new → Grows (w x) (y ∷ old) (x ∷ new)
    swaps_same y old new same g = drops_same (w x) y old (x ∷ new) same (adds_own old new g)

    added_renewed : (ys : List X) → Grows (w x) ys (map (or_new id_of x) ys)
    added_renewed [] = grows_none (w x)
    added_renewed (y ∷ ys) = at (int_eq (id_of y) (id_of x)) refl (added_renewed ys) where
      at : (b : Bool) → int_eq (id_of y) (id_of x) ≡ b → Grows (w x) ys (map (or_new id_of x) ys) → Grows (w x) (y ∷ ys) (cond b x y ∷ map (or_new id_of x) ys)
      at true is g = swaps_same y ys (map (or_new id_of x) ys) is g
      at false is g = keeps_other (w x) y ys (map (or_new id_of x) ys) is g

    added_cleared : (ys : List X) → Grows 0 ys (without (has_id_of id_of x) ys)
    added_cleared [] = grows_none 0
    added_cleared (y ∷ ys) = at (int_eq (id_of y) (id_of x)) refl (added_cleared ys) where
      at : (b : Bool) → int_eq (id_of y) (id_of x) ≡ b → Grows 0 ys (without (has_id_of id_of x) ys)
          → Grows 0 (y ∷ ys) (cond (not b) (y ∷ without (has_id_of id_of x) ys) (without (has_id_of id_of x) ys))
      at true is g = drops_same 0 y ys (without (has_id_of id_of x) ys) is g
      at false is g = keeps_other 0 y ys (without (has_id_of id_of x) ys) is g

    places_renewed : (ps : List (Place X)) (xs old new : List X) → AllSuit id_of ps xs → Grows (w x) old new
        → Grows (w x) (put_at ps ++ old) (put_at (map (renewed id_of x) ps) ++ new)
    places_renewed [] xs old new s g = g
    places_renewed (p ∷ ps) [] old new s g = absurd s
    places_renewed (p ∷ ps) (z ∷ xs) old new s g = at p.fate (int_eq p.id (id_of x)) refl s.1 (places_renewed ps xs old new s.2 g) where
      before : List X
      before = put_at ps ++ old

      after : List X
      after = put_at (map (renewed id_of x) ps) ++ new

      at : (f : Fate X) (b : Bool) → int_eq p.id (id_of x) ≡ b → Suits id_of p.id f → Grows (w x) before after
          → Grows (w x) (cons_option (put_there f) (put_at ps) ++ old) (cons_option (put_there (cond (b && is_taken f) (Becomes x) f)) (put_at (map (renewed id_of x) ps)) ++ new)
      at Stays true is fits h = adds_own before after h
      at Stays false is fits h = h
      at Goes true is fits h = h
      at Goes false is fits h = h
      at (Becomes y) true is fits h = swaps_same y before after (ap (λ i. int_eq i (id_of x)) fits ∙ is) h
      at (Becomes y) false is fits h = keeps_other (w x) y before after (ap (λ i. int_eq i (id_of x)) fits ∙ is) h

    places_cleared : (ps : List (Place X)) (xs old new : List X) → AllSuit id_of ps xs → Grows 0 old new
        → Grows 0 (put_at ps ++ old) (put_at (map (cleared id_of x) ps) ++ new)
    places_cleared [] xs old new s g = g
    places_cleared (p ∷ ps) [] old new s g = absurd s
    places_cleared (p ∷ ps) (z ∷ xs) old new s g = at p.fate (int_eq p.id (id_of x)) refl s.1 (places_cleared ps xs old new s.2 g) where
      before : List X
      before = put_at ps ++ old

      after : List X
      after = put_at (map (cleared id_of x) ps) ++ new

      at : (f : Fate X) (b : Bool) → int_eq p.id (id_of x) ≡ b → Suits id_of p.id f → Grows 0 before after
          → Grows 0 (cons_option (put_there f) (put_at ps) ++ old) (cons_option (put_there (cond b Goes f)) (put_at (map (cleared id_of x) ps)) ++ new)
      at Stays true is fits h = h
      at Stays false is fits h = h
      at Goes true is fits h = h
      at Goes false is fits h = h
      at (Becomes y) true is fits h = drops_same 0 y before after (ap (λ i. int_eq i (id_of x)) fits ∙ is) h
      at (Becomes y) false is fits h = keeps_other 0 y before after (ap (λ i. int_eq i (id_of x)) fits ∙ is) h

  -- ---- what edits put into the list

  makes_put : (p : Planned X) (xs : List X) (x : X) → AllSuit id_of p.places xs → lasts (made_in (planned_put id_of x p)) ≤ lasts (made_in p) + w x
  makes_put p xs x s = at (list_any (has_there id_of x) p.places || list_any (has_id_of id_of x) p.added) where
    appended : lasts (put_at p.places ++ (p.added ++ x ∷ [])) ≤ lasts (made_in p) + w x
    appended = subst (λ l. lasts l ≤ lasts (made_in p) + w x) (append_assoc (put_at p.places) p.added (x ∷ [])) (lasts_append (made_in p) x)

    at : (b : Bool)
        → lasts (made_in (cond b (record { places = map (renewed id_of x) p.places; added = map (or_new id_of x) p.added }) (record { places = p.places; added = p.added ++ x ∷ [] })))
        ≤ lasts (made_in p) + w x
    at true =
        let g = places_renewed x p.places xs p.added (map (or_new id_of x) p.added) s (added_renewed x p.added) in
        let few = at_most (any x (put_at (map (renewed id_of x) p.places) ++ map (or_new id_of x) p.added)) (w x) in
        omega (arith, g.within, few)
    at false = appended

  makes_none : (p : Planned X) (xs : List X) (x : X) → AllSuit id_of p.places xs → lasts (made_in (planned_without id_of x p)) ≤ lasts (made_in p)
  makes_none p xs x s =
      let g = places_cleared x p.places xs p.added (without (has_id_of id_of x) p.added) s (added_cleared x p.added) in
      let few = at_most (any x (put_at (map (cleared id_of x) p.places) ++ without (has_id_of id_of x) p.added)) 0 in
      omega (arith, g.within, few)

  makes_one : (p : Planned X) (xs : List X) (e : Edit X) → AllSuit id_of p.places xs → lasts (made_in (with_edit id_of p e)) ≤ lasts (made_in p) + weight_put w e
  makes_one p xs e s = at (e.change_type == created) (e.change_type == updated) (e.change_type == deleted) refl refl where
    x : X
    x = e.item

    of_type : (n : ℕ) → (e.change_type == n) ≡ true → (n == deleted) ≡ false → (e.change_type == deleted) ≡ false
    of_type n is other = ap (λ t. t == deleted) (eqb-true e.change_type n is) ∙ other

    at : (a b c : Bool) → (e.change_type == created) ≡ a → (e.change_type == updated) ≡ b
        → lasts (made_in (cond a (record { places = p.places; added = p.added ++ x ∷ [] }) (cond b (planned_put id_of x p) (cond c (planned_without id_of x p) p))))
        ≤ lasts (made_in p) + weight_put w e
    at true b c is_a is_b =
        let weight = ap (λ d. cond d 0 (w x)) (of_type created is_a refl) in
        let rises = subst (λ l. lasts l ≤ lasts (made_in p) + w x) (append_assoc (put_at p.places) p.added (x ∷ [])) (lasts_append (made_in p) x) in
        omega (arith, weight, rises)
    at false true c is_a is_b =
        let weight = ap (λ d. cond d 0 (w x)) (of_type updated is_b refl) in
        let rises = makes_put p xs x s in
        omega (arith, weight, rises)
    at false false true is_a is_b =
        let rises = makes_none p xs x s in
        omega (arith, rises)
    at false false false is_a is_b = omega arith

  makes_all : (es : List (Edit X)) (p : Planned X) (xs : List X) → AllSuit id_of p.places xs
      → lasts (made_in (fold (with_edit id_of) p es)) ≤ lasts (made_in p) + sum_by (weight_put w) es
  makes_all [] p xs s = omega arith
  makes_all (e ∷ es) p xs s =
      let rest = makes_all es (with_edit id_of p e) xs (suit_edit id_of xs p e s) in
      let one = makes_one p xs e s in
      let total = sum_by-cons (weight_put w) e es in
      omega (arith, rest, one, total)

  -- ---- what edits put there is among what stands

  any_put : (z : X) (ps : List (Place X)) (xs ys : List X) → AllSuit id_of ps xs → any z (left_of ps xs ++ ys) ≡ false → any z (put_at ps ++ ys) ≡ false
  any_put z [] xs ys s none = none
  any_put z (p ∷ ps) [] ys s none = absurd s
  any_put z (p ∷ ps) (x ∷ xs) ys s none = at p.fate (any_put z ps xs ys s.2) none where
    at : (f : Fate X) → (any z (left_of ps xs ++ ys) ≡ false → any z (put_at ps ++ ys) ≡ false)
        → any z (cons_option (stood f x) (left_of ps xs) ++ ys) ≡ false → any z (cons_option (put_there f) (put_at ps) ++ ys) ≡ false
    at Stays rest e = rest (or_parts (has_id_of id_of z x) (any z (left_of ps xs ++ ys)) e).1
    at Goes rest e = rest e
    at (Becomes y) rest e =
        let parts = or_parts (has_id_of id_of z y) (any z (left_of ps xs ++ ys)) e in
        λ i. parts.0 i || rest parts.1 i

  distinct_put : (ps : List (Place X)) (xs ys : List X) → AllSuit id_of ps xs → all_distinct (has_id_of id_of) (left_of ps xs ++ ys) ≡ true
      → all_distinct (has_id_of id_of) (put_at ps ++ ys) ≡ true
  distinct_put [] xs ys s d = d
  distinct_put (p ∷ ps) [] ys s d = absurd s
  distinct_put (p ∷ ps) (x ∷ xs) ys s d = at p.fate (distinct_put ps xs ys s.2) d where
    at : (f : Fate X) → (all_distinct (has_id_of id_of) (left_of ps xs ++ ys) ≡ true → all_distinct (has_id_of id_of) (put_at ps ++ ys) ≡ true)
        → all_distinct (has_id_of id_of) (cons_option (stood f x) (left_of ps xs) ++ ys) ≡ true
        → all_distinct (has_id_of id_of) (cons_option (put_there f) (put_at ps) ++ ys) ≡ true
    at Stays rest e = rest (and_parts (not (any x (left_of ps xs ++ ys))) (all_distinct (has_id_of id_of) (left_of ps xs ++ ys)) e).1
    at Goes rest e = rest e
    at (Becomes y) rest e =
        let parts = and_parts (not (any y (left_of ps xs ++ ys))) (all_distinct (has_id_of id_of) (left_of ps xs ++ ys)) e in
        λ i. not (any_put y ps xs ys s.2 (not_true (any y (left_of ps xs ++ ys)) parts.0) i) && rest parts.1 i

  -- ---- what edits take away

  more_passes : (q : X → Bool) (o : Option X) (ys : List X) → sum_by w (filter q ys) ≤ sum_by w (filter q (cons_option o ys))
  more_passes q None ys = omega arith
  more_passes q (Some y) ys = at (q y) where
    at : (b : Bool) → sum_by w (filter q ys) ≤ sum_by w (cond b (y ∷ filter q ys) (filter q ys))
    at true = omega (arith, sum_by-cons w y (filter q ys))
    at false = omega arith

  -- each place is as it was, or what was kept there and has the id of this thing isn't any more
  record Clears (x : X) (g : Place X → Place X) : Type 0 where
    pub kept : (p : Place X) → int_eq p.id (id_of x) ≡ false → is_kept (g p).fate ≡ is_kept p.fate
    pub gone : (p : Place X) → is_kept p.fate ≡ false → is_kept (g p).fate ≡ false

  -- the places lose no more than what stood there with the id of this thing
  abbrev FewLost : X → (Place X → Place X) → List (Place X) → List X → Type 0
  FewLost x g ps ys = lost w (map g ps) ys ≤ lost w ps ys + sum_by w (filter (has_id_of id_of x) (left_of ps ys))

  -- the same of one place more, where this thing was
  abbrev FewLostAt : X → (Place X → Place X) → List (Place X) → List X → Place X → X → Fate X → Type 0
  FewLostAt x g ps ys p y f =
      cond (is_kept (g p).fate) 0 (w y) + lost w (map g ps) ys
      ≤ (cond (is_kept f) 0 (w y) + lost w ps ys) + sum_by w (filter (has_id_of id_of x) (cons_option (stood f y) (left_of ps ys)))

  loses_as_before : (x : X) (g : Place X → Place X) (ps : List (Place X)) (ys : List X) (p : Place X) (y : X) (f : Fate X)
      → is_kept (g p).fate ≡ is_kept f → FewLost x g ps ys → FewLostAt x g ps ys p y f
  loses_as_before x g ps ys p y f e rest =
      let head = ap (λ b. cond b 0 (w y)) e in
      let more = more_passes (has_id_of id_of x) (stood f y) (left_of ps ys) in
      omega (arith, rest, head, more)

  loses : (x : X) (g : Place X → Place X) → Clears x g → (ps : List (Place X)) (xs : List X) → AllSuit id_of ps xs → FewLost x g ps xs
  loses x g c [] xs s = omega arith
  loses x g c (p ∷ ps) [] s = absurd s
  loses x g c (p ∷ ps) (y ∷ ys) s = at (loses x g c ps ys s.2) p.fate (int_eq p.id (id_of x)) refl refl where
    at : FewLost x g ps ys → (f : Fate X) (b : Bool) → p.fate ≡ f → int_eq p.id (id_of x) ≡ b → FewLostAt x g ps ys p y f
    at rest Stays true of is =
        let same : has_id_of id_of x y ≡ true = ap (λ i. int_eq i (id_of x)) (sym s.0) ∙ is in
        let passes = ap (λ b. sum_by w (cond b (y ∷ filter (has_id_of id_of x) (left_of ps ys)) (filter (has_id_of id_of x) (left_of ps ys)))) same in
        let total = sum_by-cons w y (filter (has_id_of id_of x) (left_of ps ys)) in
        let head = none_or (is_kept (g p).fate) (w y) in
        omega (arith, rest, passes, total, head)
    at rest Stays false of is = loses_as_before x g ps ys p y Stays (c.kept p is ∙ ap is_kept of) rest
    at rest Goes b of is = loses_as_before x g ps ys p y Goes (c.gone p (ap is_kept of)) rest
    at rest (Becomes z) b of is = loses_as_before x g ps ys p y (Becomes z) (c.gone p (ap is_kept of)) rest

  renewed_clears : (x : X) → Clears x (renewed id_of x)
  renewed_clears x = record {
    kept = λ p other. ap (λ b. is_kept (cond (b && is_taken p.fate) (Becomes x) p.fate)) other;
    gone = λ p none. at (int_eq p.id (id_of x) && is_taken p.fate) p.fate none;
  } where
    at : (b : Bool) (f : Fate X) → is_kept f ≡ false → is_kept (cond b (Becomes x) f) ≡ false
    at true f none = refl
    at false f none = none

  cleared_clears : (x : X) → Clears x (cleared id_of x)
  cleared_clears x = record {
    kept = λ p other. ap (λ b. is_kept (cond b Goes p.fate)) other;
    gone = λ p none. at (int_eq p.id (id_of x)) p.fate none;
  } where
    at : (b : Bool) (f : Fate X) → is_kept f ≡ false → is_kept (cond b Goes f) ≡ false
    at true f none = refl
    at false f none = none

  loses_one : (p : Planned X) (xs : List X) (e : Edit X) → AllSuit id_of p.places xs
      → lost w (with_edit id_of p e).places xs ≤ lost w p.places xs + sum_by w (filter (has_id_of id_of e.item) (standing p xs))
  loses_one p xs e s = at (e.change_type == created) (e.change_type == updated) (e.change_type == deleted) where
    x : X
    x = e.item

    more : sum_by w (filter (has_id_of id_of x) (standing p xs)) ≡ sum_by w (filter (has_id_of id_of x) (left_of p.places xs)) + sum_by w (filter (has_id_of id_of x) p.added)
    more = ap (sum_by w) (filter-append (has_id_of id_of x) (left_of p.places xs) p.added) ∙ sum_by-append w (filter (has_id_of id_of x) (left_of p.places xs)) (filter (has_id_of id_of x) p.added)

    if_put : (b : Bool)
        → lost w (cond {A = Planned X} b (record { places = map (renewed id_of x) p.places; added = map (or_new id_of x) p.added }) (record { places = p.places; added = p.added ++ x ∷ [] })).places xs
        ≤ lost w p.places xs + sum_by w (filter (has_id_of id_of x) (standing p xs))
    if_put true =
        let one = loses x (renewed id_of x) (renewed_clears x) p.places xs s in
        omega (arith, one, more)
    if_put false = omega arith

    at : (a b c : Bool)
        → lost w (cond {A = Planned X} a (record { places = p.places; added = p.added ++ x ∷ [] }) (cond b (planned_put id_of x p) (cond c (planned_without id_of x p) p))).places xs
        ≤ lost w p.places xs + sum_by w (filter (has_id_of id_of x) (standing p xs))
    at true b c = omega arith
    at false true c = if_put (list_any (has_there id_of x) p.places || list_any (has_id_of id_of x) p.added)
    at false false true =
        let one = loses x (cleared id_of x) (cleared_clears x) p.places xs s in
        omega (arith, one, more)
    at false false false = omega arith

  -- ---- both together

  weighs_all : (es : List (Edit X)) (p : Planned X) (xs : List X) → AllSuit id_of p.places xs
      → lasts (made_in (fold (with_edit id_of) p es)) + lost w (fold (with_edit id_of) p es).places xs
      ≤ (lasts (made_in p) + lost w p.places xs) + weighed id_of w (standing p xs) es
  weighs_all [] p xs s = omega arith
  weighs_all (e ∷ es) p xs s =
      let rest = weighs_all es (with_edit id_of p e) xs (suit_edit id_of xs p e s) in
      let after = ap (λ l. weighed id_of w l es) (after_edit id_of xs p e s) in
      let made = makes_one p xs e s in
      let gone = loses_one p xs e s in
      omega (arith, rest, after, made, gone)

  lost_first : (xs : List X) → lost {X = X} w (map unmoved (map id_of xs)) xs ≡ 0
  lost_first [] = refl
  lost_first (x ∷ xs) = let rest = lost_first xs in omega (arith, rest)

  none_put : (ids : List ℤ) → put_at {X = X} (map unmoved ids) ≡ []
  none_put [] = refl
  none_put (id ∷ ids) = none_put ids

  none_made : (ids : List ℤ) → lasts (made_in (at_first ids)) ≡ 0
  none_made ids = ap (λ l. lasts (l ++ [])) (none_put ids)

  module _ (xs : List X) (es : List (Edit X)) (apart : all_distinct (has_id_of id_of) (fold (edited id_of) xs es) ≡ true) where
    made_apart : lasts (made_in (plan_of id_of (map id_of xs) es)) ≡ sum_by w (made_in (plan_of id_of (map id_of xs) es))
    made_apart =
        let p = plan_of id_of (map id_of xs) es in
        lasts_distinct (made_in p) (distinct_put p.places xs p.added (suit_all id_of xs es) (ap (all_distinct (has_id_of id_of)) (plan_stands id_of xs es) ∙ apart))

    -- what edits make is at most what they put into the list
    pub plan_makes : sum_by w (made_in (plan_of id_of (map id_of xs) es)) ≤ sum_by (weight_put w) es
    plan_makes =
        let all = makes_all es (at_first (map id_of xs)) xs (suit_first id_of xs) in
        let start = none_made (map id_of xs) in
        omega (arith, all, start, made_apart)

    -- what they make and take away is at most what they put there and what had their ids before
    pub plan_weighs : sum_by w (made_in (plan_of id_of (map id_of xs) es)) + lost w (plan_of id_of (map id_of xs) es).places xs ≤ weighed id_of w xs es
    plan_weighs =
        let all = weighs_all es (at_first (map id_of xs)) xs (suit_first id_of xs) in
        let none = lost_first xs in
        let start = ap (λ l. weighed id_of w l es) (stands_first id_of xs) in
        omega (arith, all, none, start, none_made (map id_of xs), made_apart)
