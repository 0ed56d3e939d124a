-- Lists that rise, and where a test that only an early part passes turns.
use Rattle.std.proofs.Common.{◌≡◌, ℕ, ◌+◌, ◌-◌, ◌<◌, ◌≤◌, zero, suc, Bool, true, false, List, [], ◌∷◌, ◌++◌, length, get_or, take, drop, refl, sym, ap, ◌∙◌, subst, arith, inl, inr, add-zero}
use Rattle.std.proofs.lemmas.Bool.{cases_lt, false_from_ne_true, both_ways}
use Rattle.std.proofs.lemmas.List.Concat.{flat_map-append}
use Rattle.std.proofs.lemmas.List.{append_assoc, take-append-drop, get_or-drop, get_or-take, length-drop, length-take-le, take_all, drop_more, drop-append-le, get_or_append_left}
use Rattle.std.proofs.lemmas.List.Elements.{All-nil, All-cons, All-head, All-tail, All-append, All-take, All-drop}
use Rattle.std.proofs.lemmas.Option.{slice_get-get_or}
use Rattle.std.specs.List.{All, AllWithin, flat_map}
use Rattle.std.specs.List.Sorted.{IsPartitionedBy}
use Rattle.std.specs.Option.{option_map_or}
use Rattle.rg_trie.specs.Blocks.{IsRising}
use Rattle.rg_trie.specs.Sought.{ends_passing}
use Rattle.rg_trie.proofs.Shares.{counted_drop}

module _ {X : Type 0} (R : X → X → Type 0) where
  pub rises_at : (xs : List X) → IsRising R xs → (i j : ℕ) (d : X) → i < j → j < length xs → R (get_or xs i d) (get_or xs j d)
  rises_at [] h i j d b l = absurd (omega arith)
  rises_at (x ∷ xs) h zero zero d b l = absurd (omega arith)
  rises_at (x ∷ xs) h zero (suc j) d b l = h.0 j d (omega arith)
  rises_at (x ∷ xs) h (suc i) zero d b l = absurd (omega arith)
  rises_at (x ∷ xs) h (suc i) (suc j) d b l = rises_at xs h.1 i j d (omega arith) (omega arith)

  -- all of two lists stand in order
  abbrev pub Across : List X → List X → Type 0
  Across xs ys = All (λ x. All (R x) ys) xs

  pub rising-append : (xs ys : List X) → IsRising R xs → IsRising R ys → Across xs ys → IsRising R (xs ++ ys)
  rising-append [] ys h g a = g
  rising-append (x ∷ xs) ys h g a = (All-append (R x) xs ys h.0 (All-head (λ z. All (R z) ys) x xs a), rising-append xs ys h.1 g (All-tail (λ z. All (R z) ys) x xs a))

  pub all_left : (P : X → Type 0) (xs ys : List X) → All P (xs ++ ys) → All P xs
  all_left P [] ys h = All-nil P
  all_left P (x ∷ xs) ys h = All-cons P x xs (All-head P x (xs ++ ys) h) (all_left P xs ys (All-tail P x (xs ++ ys) h))

  pub all_right : (P : X → Type 0) (xs ys : List X) → All P (xs ++ ys) → All P ys
  all_right P [] ys h = h
  all_right P (x ∷ xs) ys h = all_right P xs ys (All-tail P x (xs ++ ys) h)

  pub rising_left : (xs ys : List X) → IsRising R (xs ++ ys) → IsRising R xs
  rising_left [] ys h = tt
  rising_left (x ∷ xs) ys h = (all_left (R x) xs ys h.0, rising_left xs ys h.1)

  pub rising_right : (xs ys : List X) → IsRising R (xs ++ ys) → IsRising R ys
  rising_right [] ys h = h
  rising_right (x ∷ xs) ys h = rising_right xs ys h.1

  pub rising_rest : (xs ys : List X) (n : ℕ) → IsRising R (xs ++ ys) → IsRising R (drop n xs ++ ys)
  rising_rest xs ys n h = rising_right (take n xs) (drop n xs ++ ys) (subst (IsRising R) (ap (λ zs. zs ++ ys) (sym (take-append-drop n xs)) ∙ append_assoc (take n xs) (drop n xs) ys) h)

  pub rising_across : (xs ys : List X) → IsRising R (xs ++ ys) → Across xs ys
  rising_across [] ys h = All-nil (λ x. All (R x) ys)
  rising_across (x ∷ xs) ys h = All-cons (λ z. All (R z) ys) x xs (all_right (R x) xs ys h.0) (rising_across xs ys h.1)

  module _ (test : X → Bool) (early : (p q : X) → R p q → test q ≡ true → test p ≡ true) where
    pub partitioned : (xs : List X) → IsRising R xs → IsPartitionedBy test xs
    partitioned xs h i j d b l t = elim (cases_lt i j) [
      | inl lt ↦ early _ _ (rises_at xs h i j d lt l) t
      | inr ge ↦ let same : j ≡ i = omega arith in subst (λ k. test (get_or xs k d) ≡ true) same t
    ]

    ends_last : (xs : List X) (d : X) → 0 < length xs → ends_passing test xs ≡ test (get_or xs (length xs - 1) d)
    ends_last xs d l = ap (λ o. option_map_or test o true) (slice_get-get_or xs (length xs - 1) d (omega arith))

    -- a list whose last element passes passes whole
    pub all_pass : (xs : List X) → IsRising R xs → ends_passing test xs ≡ true → All (λ x. test x ≡ true) xs
    all_pass xs h e k d l = partitioned xs h k (length xs - 1) d (omega arith) (omega arith) (sym (ends_last xs d (omega arith)) ∙ e)

    -- what comes after an element that fails fails
    pub all_fail : (xs : List X) → IsRising R xs → (n : ℕ) → ((d : X) → n < length xs → test (get_or xs n d) ≡ false) → All (λ x. test x ≡ false) (drop n xs)
    all_fail xs h n f k d l =
        let long : k < length xs - n = subst (λ m. k < m) (length-drop n xs) l in
        subst (λ x. test x ≡ false) (sym (get_or-drop n xs k d))
        (false_from_ne_true _ (λ t. both_ways _ (f d (omega arith)) (partitioned xs h n (n + k) d (omega arith) (omega arith) t)))

    module _ {B : Type 0} (f : B → List X) where
      pub rising_block : (bs : List B) (j : ℕ) (d : B) → j < length bs → IsRising R (flat_map f bs) → IsRising R (f (get_or bs j d))
      rising_block [] j d l h = absurd (omega arith)
      rising_block (b ∷ bs) zero d l h = rising_left (f b) (flat_map f bs) h
      rising_block (b ∷ bs) (suc j) d l h = rising_block bs j d (omega arith) (rising_right (f b) (flat_map f bs) h)

      all_block : (P : X → Type 0) (bs : List B) (j : ℕ) (d : B) → j < length bs → All P (flat_map f bs) → All P (f (get_or bs j d))
      all_block P [] j d l h = absurd (omega arith)
      all_block P (b ∷ bs) zero d l h = all_left P (f b) (flat_map f bs) h
      all_block P (b ∷ bs) (suc j) d l h = all_block P bs j d (omega arith) (all_right P (f b) (flat_map f bs) h)

      across_blocks : (bs : List B) (i j : ℕ) (d : B) → i < j → j < length bs → IsRising R (flat_map f bs) → Across (f (get_or bs i d)) (f (get_or bs j d))
      across_blocks [] i j d b l h = absurd (omega arith)
      across_blocks (b ∷ bs) zero zero d lt l h = absurd (omega arith)
      across_blocks (b ∷ bs) zero (suc j) d lt l h = λ k e m. all_block (R (get_or (f b) k e)) bs j d (omega arith) (rising_across (f b) (flat_map f bs) h k e m)
      across_blocks (b ∷ bs) (suc i) zero d lt l h = absurd (omega arith)
      across_blocks (b ∷ bs) (suc i) (suc j) d lt l h = across_blocks bs i j d (omega arith) (omega arith) (rising_right (f b) (flat_map f bs) h)

      -- one block ends passing where a later one does
      earlier_ends : (xs ys : List X) → 0 < length xs → 0 < length ys → Across xs ys → ends_passing test ys ≡ true → ends_passing test xs ≡ true
      earlier_ends [] ys lx ly a t = refl
      earlier_ends (x ∷ xs) [] lx ly a t = absurd (omega arith)
      earlier_ends (x ∷ xs) (y ∷ ys) lx ly a t =
          ends_last (x ∷ xs) x (omega arith)
          ∙ early _ _ (a (length (x ∷ xs) - 1) x (omega arith) (length (y ∷ ys) - 1) y (omega arith)) (sym (ends_last (y ∷ ys) y (omega arith)) ∙ t)

      pub blocks_partitioned : (bs : List B) → IsRising R (flat_map f bs) → All (λ b. 0 < length (f b)) bs → IsPartitionedBy (λ b. ends_passing test (f b)) bs
      blocks_partitioned bs h filled i j d le l t = elim (cases_lt i j) [
        | inl lt ↦ earlier_ends (f (get_or bs i d)) (f (get_or bs j d)) (filled i d (omega arith)) (filled j d l) (across_blocks bs i j d lt l h) t
        | inr ge ↦ let same : j ≡ i = omega arith in subst (λ k. ends_passing test (f (get_or bs k d)) ≡ true) same t
      ]

      -- the blocks before a place at which they no longer end passing pass whole
      pub blocks_pass : (bs : List B) (n : ℕ) → n ≤ length bs → IsRising R (flat_map f bs) → AllWithin (λ b. ends_passing test (f b) ≡ true) bs 0 n → All (λ x. test x ≡ true) (flat_map f (take n bs))
      blocks_pass [] zero l h a = All-nil (λ x. test x ≡ true)
      blocks_pass [] (suc n) l h a = absurd (omega arith)
      blocks_pass (b ∷ bs) zero l h a = All-nil (λ x. test x ≡ true)
      blocks_pass (b ∷ bs) (suc n) l h a = All-append (λ x. test x ≡ true) (f b) (flat_map f (take n bs))
          (all_pass (f b) (rising_left (f b) (flat_map f bs) h) (a 0 b (omega arith) (omega arith)))
          (blocks_pass bs n (omega arith) (rising_right (f b) (flat_map f bs) h) (λ k d lo hi. a (suc k) d (omega arith) (omega arith)))

  -- an early part by its places, and by itself
  pub all_taken : (P : X → Type 0) (xs : List X) (n : ℕ) → n ≤ length xs → AllWithin P xs 0 n → All P (take n xs)
  all_taken P xs n l a k d h =
      let early : k < n = subst (λ m. k < m) (length-take-le n xs l) h in
      subst P (sym (get_or-take n xs k d early)) (a k d (omega arith) early)

  pub all_dropped : (P : X → Type 0) (xs : List X) (n : ℕ) → AllWithin P xs n (length xs) → All P (drop n xs)
  all_dropped P xs n a k d h =
      let within : k < length xs - n = subst (λ m. k < m) (length-drop n xs) h in
      subst P (sym (get_or-drop n xs k d)) (a (n + k) d (omega arith) (omega arith))

  module _ {B : Type 0} (f : B → List X) where
    pub rising_dropped : (bs : List B) (n : ℕ) → IsRising R (flat_map f bs) → IsRising R (flat_map f (drop n bs))
    rising_dropped [] zero h = h
    rising_dropped [] (suc n) h = h
    rising_dropped (b ∷ bs) zero h = h
    rising_dropped (b ∷ bs) (suc n) h = rising_dropped bs n (rising_right (f b) (flat_map f bs) h)

    pub first_block : (bs : List B) (n : ℕ) (d : B) → n < length bs → flat_map f (drop n bs) ≡ f (get_or bs n d) ++ flat_map f (drop (n + 1) bs)
    first_block bs n d l = ap (flat_map f) (drop_more bs n d l)

  module _ (test : X → Bool) (early : (p q : X) → R p q → test q ≡ true → test p ≡ true) where
    -- a list of which the last element fails is not taken whole
    pub stops_inside : (xs : List X) (n : ℕ) → 0 < length xs → ends_passing test xs ≡ false → n ≤ length xs → All (λ x. test x ≡ true) (take n xs) → n < length xs
    stops_inside [] n l e b a = absurd (omega arith)
    stops_inside (x ∷ xs) n l e b a = elim (cases_lt n (length (x ∷ xs))) [
      | inl lt ↦ lt
      | inr ge ↦
          let last : test (get_or (x ∷ xs) (length (x ∷ xs) - 1) x) ≡ true = subst (λ ys. All (λ y. test y ≡ true) ys) (take_all n (x ∷ xs) ge) a (length (x ∷ xs) - 1) x (omega arith) in
          absurd (both_ways _ e (ends_last test early (x ∷ xs) x (omega arith) ∙ last))
    ]

    pub stops_within : (xs : List X) (n : ℕ) → ends_passing test xs ≡ false → n ≤ length xs → All (λ x. test x ≡ true) (take n xs) → n < length xs
    stops_within [] n e b a = cc
    stops_within (x ∷ xs) n e b a = stops_inside (x ∷ xs) n (omega arith) e b a

    pub fails_from : {B : Type 0} (f : B → List X) (bs : List B) (b n : ℕ) (d : B) → b < length bs → IsRising R (flat_map f bs) → n < length (f (get_or bs b d)) → All (λ x. test x ≡ false) (drop n (f (get_or bs b d))) → All (λ x. test x ≡ false) (drop n (flat_map f (drop b bs)))
    fails_from f bs b n d l h m a = all_fail test early (flat_map f (drop b bs)) (rising_dropped f bs b h) n
        (λ e k. ap test (ap (λ xs. get_or xs n e) (first_block f bs b d l) ∙ get_or_append_left (f (get_or bs b d)) (flat_map f (drop (b + 1) bs)) e n m ∙ ap (λ k. get_or (f (get_or bs b d)) k e) (sym (add-zero n)) ∙ sym (get_or-drop n (f (get_or bs b d)) 0 e))
        ∙ a 0 e (subst (λ w. 0 < w) (sym (length-drop n (f (get_or bs b d)))) (omega arith)))

module _ {X B : Type 0} (f : B → List X) where
  -- a list in blocks, cut inside of one
  pub cut_whole : (bs : List B) (b n : ℕ) → (flat_map f (take b bs) ++ take n (flat_map f (drop b bs))) ++ drop n (flat_map f (drop b bs)) ≡ flat_map f bs
  cut_whole bs b n =
      append_assoc (flat_map f (take b bs)) (take n (flat_map f (drop b bs))) (drop n (flat_map f (drop b bs)))
      ∙ ap (λ xs. flat_map f (take b bs) ++ xs) (take-append-drop n (flat_map f (drop b bs)))
      ∙ sym (flat_map-append f (take b bs) (drop b bs)) ∙ ap (flat_map f) (take-append-drop b bs)

pub ruleset cuts = (cut_whole, counted_drop, All-take, All-drop)

module _ {X : Type 0} (R : X → X → Type 0) (test : X → Bool) (early : (p q : X) → R p q → test q ≡ true → test p ≡ true) where
  -- a list that rises fails from where its front begins to fail
  pub fails_on : (xs ys : List X) (n : ℕ) → n < length xs → IsRising R (xs ++ ys) → All (λ x. test x ≡ false) (drop n xs) → All (λ x. test x ≡ false) (drop n xs ++ ys)
  fails_on xs ys n l h a = subst (All (λ x. test x ≡ false)) (drop-append-le n xs ys (omega arith)) (all_fail R test early (xs ++ ys) h n
      (λ d k. ap test (get_or_append_left xs ys d n l ∙ ap (λ k. get_or xs k d) (sym (add-zero n)) ∙ sym (get_or-drop n xs 0 d))
      ∙ a 0 d (subst (λ w. 0 < w) (sym (length-drop n xs)) (omega arith))))
