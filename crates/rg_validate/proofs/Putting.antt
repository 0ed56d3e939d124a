-- A list in which one element was put.
use Rattle.std.proofs.Common.{◌≡◌, ◌⊎◌, ◌<◌, ◌+◌, ℕ, zero, suc, length, get_or, arith, ◌||◌, ◌&&◌, Bool, true, false, not, cond, List, [], ◌∷◌, ◌++◌, map, take, drop, Some, None, position, Contains, refl, sym, ap, ◌∙◌, subst, inl, inr}
use Rattle.std.proofs.lemmas.Bool.{and_parts, false≢true, or_from, or_parts, true≢false}
use Rattle.std.proofs.lemmas.List.Elements.{Contains-append_cases, Contains-append_left, Contains-append_right}
use Rattle.std.proofs.lemmas.Option.{none-some}
use Rattle.std.proofs.lemmas.Iterator.Adapters.{position_from-zero}
use Rattle.std.proofs.lemmas.List.Quantifiers.{position-Some}
use Rattle.std.specs.List.{list_any, position_from}
use Rattle.rg_base.specs.Texts.{all_distinct}
use Rattle.rg_base.proofs.Lists.{Contains-cases, Contains-first, Contains-map, Contains-mapped, Contains-none, any_holds}
use Rattle.rg_cmd.specs.Lists.{put}

pub bool_is : (b : Bool) → (b ≡ true) ⊎ (b ≡ false)
bool_is true = inl refl
bool_is false = inr refl

module _ {X : Type 0} (same : X → Bool) (x : X) where
  abbrev pub replaced : List X → List X
  replaced xs = map (λ y. cond (same y) x y) xs

  pub replaced_none : (xs : List X) → list_any same xs ≡ false → replaced xs ≡ xs
  replaced_none [] e = refl
  replaced_none (y ∷ xs) e =
      let p = or_parts (same y) (list_any same xs) e in
      λ i. (ap (λ b. cond b x y) p.0 i) ∷ (replaced_none xs p.1 i)

  pub put_there : (xs : List X) → list_any same xs ≡ true → put same x xs ≡ replaced xs
  put_there xs e = ap (λ b. cond b (replaced xs) (xs ++ x ∷ [])) e

  pub put_last : (xs : List X) → list_any same xs ≡ false → put same x xs ≡ xs ++ x ∷ []
  put_last xs e = ap (λ b. cond b (replaced xs) (xs ++ x ∷ [])) e

  pub put_new : (xs : List X) → list_any same xs ≡ false → put same x xs ≡ replaced xs ++ x ∷ []
  put_new xs e = put_last xs e ∙ ap (λ ys. ys ++ x ∷ []) (sym (replaced_none xs e))

  in_replaced : (xs : List X) → list_any same xs ≡ true → Contains (replaced xs) x
  in_replaced xs e =
      let a = any_holds same xs e in
      subst (Contains (replaced xs)) (ap (λ b. cond b x a.0) a.2) (Contains-map (λ y. cond (same y) x y) xs a.0 a.1)

  -- what was put is there
  pub put_has : (xs : List X) → Contains (put same x xs) x
  put_has xs = elim (bool_is (list_any same xs)) [
    | inl e ↦ subst (λ ys. Contains ys x) (sym (put_there xs e)) (in_replaced xs e)
    | inr e ↦ subst (λ ys. Contains ys x) (sym (put_last xs e)) (Contains-append_right xs (x ∷ []) x (Contains-first x []))
  ]

  one_only : (o : X) → Contains (x ∷ []) o → o ≡ x
  one_only o h = elim (Contains-cases x [] o h) [ inl e ↦ sym e | inr n ↦ absurd (Contains-none o n) ]

  -- whatever else is there was there
  pub put_others : (xs : List X) (o : X) → Contains (put same x xs) o → (o ≡ x) ⊎ Contains xs o
  put_others xs o h = elim (bool_is (list_any same xs)) [
    | inl e ↦
        let m = Contains-mapped (λ y. cond (same y) x y) xs o (subst (λ ys. Contains ys o) (put_there xs e) h) in
        elim (bool_is (same m.0)) [
          | inl was ↦ inl (sym m.2 ∙ ap (λ b. cond b x m.0) was)
          | inr was ↦ inr (subst (Contains xs) (sym (ap (λ b. cond b x m.0) was) ∙ m.2) m.1)
        ]
    | inr e ↦ elim (Contains-append_cases xs (x ∷ []) o (subst (λ ys. Contains ys o) (put_last xs e) h)) [
      | inl old ↦ inr old
      | inr new ↦ inl (one_only o new)
    ]
  ]

  -- what isn't replaced stays
  pub put_keeps : (xs : List X) (y : X) → Contains xs y → same y ≡ false → Contains (put same x xs) y
  put_keeps xs y h apart = elim (bool_is (list_any same xs)) [
    | inl e ↦ subst (λ ys. Contains ys y) (sym (put_there xs e)) (subst (Contains (replaced xs)) (ap (λ b. cond b x y) apart) (Contains-map (λ z. cond (same z) x z) xs y h))
    | inr e ↦ subst (λ ys. Contains ys y) (sym (put_last xs e)) (Contains-append_left xs (x ∷ []) y h)
  ]

  module _ (name : X → List ℕ) (alike : (y : X) → same y ≡ true → name y ≡ name x) where
    -- the names stay
    pub put_names : (xs : List X) (n : List ℕ) → Contains (map name xs) n → Contains (map name (put same x xs)) n
    put_names xs n h =
        let m = Contains-mapped name xs n h in
        elim (bool_is (same m.0)) [
          | inl was ↦ subst (Contains (map name (put same x xs))) (sym (alike m.0 was) ∙ m.2) (Contains-map name (put same x xs) x (put_has xs))
          | inr was ↦ subst (Contains (map name (put same x xs))) m.2 (Contains-map name (put same x xs) m.0 (put_keeps xs m.0 m.1 was))
        ]

    pub replaced_names : (xs : List X) → map name (replaced xs) ≡ map name xs
    replaced_names [] = refl
    replaced_names (y ∷ xs) = λ i. (one (bool_is (same y)) i) ∷ (replaced_names xs i) where
      one : (same y ≡ true) ⊎ (same y ≡ false) → name (cond (same y) x y) ≡ name y
      one (inl was) = ap (λ b. name (cond b x y)) was ∙ sym (alike y was)
      one (inr was) = ap (λ b. name (cond b x y)) was

module _ {X : Type 0} (r : X → X → Bool) where
  not_it : (b : Bool) → not b ≡ true → b ≡ false
  not_it true h = absurd (false≢true h)
  not_it false h = refl

  later : (y : X) (xs : List X) (x : X) → list_any (r y) xs ≡ false → r y x ≡ false → list_any (r y) (xs ++ x ∷ []) ≡ false
  later y [] x a b = or_from (r y x) false b refl
  later y (z ∷ xs) x a b = let s = or_parts (r y z) (list_any (r y) xs) a in or_from (r y z) (list_any (r y) (xs ++ x ∷ [])) s.0 (later y xs x s.1 b)

  -- one more at the end, which is the same as none before it
  pub distinct_last : (xs : List X) (x : X) → all_distinct r xs ≡ true → list_any (λ y. r y x) xs ≡ false → all_distinct r (xs ++ x ∷ []) ≡ true
  distinct_last [] x d e = refl
  distinct_last (y ∷ xs) x d e =
      let p = or_parts (r y x) (list_any (λ z. r z x) xs) e in
      let q = and_parts (not (list_any (r y) xs)) (all_distinct r xs) d in
      let rest = distinct_last xs x q.1 p.1 in
      λ i. not (later y xs x (not_it (list_any (r y) xs) q.0) p.0 i) && rest i

-- ---- one element in the middle

-- the first that is the same, with what stands before and after it; it is replaced there, where no other is the same
pub record Split {X : Type 0} (same : X → Bool) (x : X) (xs : List X) (k : ℕ) : Type 0 where
  pub old : X
  pub was : xs ≡ take k xs ++ old ∷ drop (suc k) xs
  pub is : put same x xs ≡ take k xs ++ x ∷ drop (suc k) xs

module _ {X : Type 0} (same : X → Bool) (x : X) (r : X → X → Bool) (alike : (y z : X) → same y ≡ true → same z ≡ true → r y z ≡ true) where
  none_later : (y : X) (xs : List X) → same y ≡ true → list_any (r y) xs ≡ false → list_any same xs ≡ false
  none_later y [] here e = refl
  none_later y (z ∷ xs) here e =
      let p = or_parts (r y z) (list_any (r y) xs) e in
      or_from (same z) (list_any same xs) (apart (bool_is (same z)) p.0) (none_later y xs here p.1) where
        apart : (same z ≡ true) ⊎ (same z ≡ false) → r y z ≡ false → same z ≡ false
        apart (inl too) differs = absurd (true≢false (sym (alike y z here too) ∙ differs))
        apart (inr other) differs = other

  record Middle (xs : List X) (k : ℕ) : Type 0 where
    old : X
    was : xs ≡ take k xs ++ old ∷ drop (suc k) xs
    is : replaced same x xs ≡ take k xs ++ x ∷ drop (suc k) xs
    some : list_any same xs ≡ true

  middle : (xs : List X) (k : ℕ) → k < length xs → same (get_or xs k x) ≡ true → ((j : ℕ) → j < k → same (get_or xs j x) ≡ false) → all_distinct r xs ≡ true → Middle xs k
  middle [] k l here before d = absurd (omega (arith, l))
  middle (y ∷ xs) zero l here before d =
      let parts = and_parts (not (list_any (r y) xs)) (all_distinct r xs) d in
      record {
        old = y;
        was = refl;
        is = λ i. (ap (λ b. cond b x y) here i) ∷ (replaced_none same x xs (none_later y xs here (not_it r (list_any (r y) xs) parts.0)) i);
        some = ap (λ b. b || list_any same xs) here;
      }
  middle (y ∷ xs) (suc k) l here before d =
      let parts = and_parts (not (list_any (r y) xs)) (all_distinct r xs) d in
      let not_here = before 0 (omega arith) in
      let m = middle xs k (omega arith) here (λ j below. before (suc j) (omega arith)) parts.1 in
      record {
        old = m.old;
        was = ap (λ zs. y ∷ zs) m.was;
        is = λ i. (ap (λ b. cond b x y) not_here i) ∷ (m.is i);
        some = ap (λ b. b || list_any same xs) not_here ∙ m.some;
      }

  pub split : (xs : List X) (k : ℕ) → position same xs ≡ Some k → all_distinct r xs ≡ true → Split same x xs k
  split xs k e d =
      let f = position-Some same xs k x e in
      let m = middle xs k f.0 f.1 f.2 d in
      record { old = m.old; was = m.was; is = put_there same x xs m.some ∙ m.is }

-- nothing passes where there is no first place
none_from : {X : Type 0} (same : X → Bool) (n : ℕ) (xs : List X) → position_from same n xs ≡ None → list_any same xs ≡ false
none_from same n [] e = refl
none_from same n (y ∷ xs) e = at (same y) (none_from same (n + 1) xs) e where
  at : (b : Bool) → (position_from same (n + 1) xs ≡ None → list_any same xs ≡ false) → cond b (Some n) (position_from same (n + 1) xs) ≡ None → (b || list_any same xs) ≡ false
  at true rest h = absurd (none-some n (sym h))
  at false rest h = rest h

pub none_at : {X : Type 0} (same : X → Bool) (xs : List X) → position same xs ≡ None → list_any same xs ≡ false
none_at same xs e = none_from same 0 xs (sym (position_from-zero same xs) ∙ e)

module _ {X : Type 0} (f : X → X → Bool) (flip : (a b : X) → f a b ≡ f b a) where
  any_middle : (y z : X) (before after : List X) → list_any (f y) (before ++ z ∷ after) ≡ (f y z || list_any (f y) (before ++ after))
  any_middle y z [] after = refl
  any_middle y z (a ∷ before) after = ap (λ b. f y a || b) (any_middle y z before after) ∙ swap (f y a) (f y z) (list_any (f y) (before ++ after)) where
    swap : (a b c : Bool) → (a || (b || c)) ≡ (b || (a || c))
    swap true true c = refl
    swap true false c = refl
    swap false true c = refl
    swap false false c = refl

  -- one more in the middle is apart from the others exactly where it is from each
  pub distinct_middle : (z : X) (before after : List X) → all_distinct f (before ++ z ∷ after) ≡ (not (list_any (f z) (before ++ after)) && all_distinct f (before ++ after))
  distinct_middle z [] after = refl
  distinct_middle z (y ∷ before) after =
      ap (λ b. not b && all_distinct f (before ++ z ∷ after)) (any_middle y z before after ∙ ap (λ b. b || list_any (f y) (before ++ after)) (flip y z))
      ∙ ap (λ b. not (f z y || list_any (f y) (before ++ after)) && b) (distinct_middle z before after)
      ∙ turn (f z y) (list_any (f y) (before ++ after)) (list_any (f z) (before ++ after)) (all_distinct f (before ++ after)) where
        turn : (a b c d : Bool) → (not (a || b) && (not c && d)) ≡ (not (a || c) && (not b && d))
        turn true b c d = refl
        turn false true true d = refl
        turn false true false d = refl
        turn false false true d = refl
        turn false false false d = refl

  -- in the place of another
  pub distinct_replaced : (old z : X) (before after : List X) → all_distinct f (before ++ old ∷ after) ≡ true → all_distinct f (before ++ z ∷ after) ≡ not (list_any (f z) (before ++ after))
  distinct_replaced old z before after d =
      let parts = and_parts (not (list_any (f old) (before ++ after))) (all_distinct f (before ++ after)) (sym (distinct_middle old before after) ∙ d) in
      distinct_middle z before after ∙ ap (λ b. not (list_any (f z) (before ++ after)) && b) parts.1 ∙ last (list_any (f z) (before ++ after)) where
        last : (b : Bool) → (not b && true) ≡ not b
        last true = refl
        last false = refl
