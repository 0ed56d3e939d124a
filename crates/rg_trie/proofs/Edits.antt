-- A pair that is filed or taken out where a list of pairs is cut.
use Rattle.std.proofs.Common.{◌≡◌, ◌+◌, arith, Bool, true, false, List, [], ◌∷◌, ◌++◌, filter, cond, not, length, drop, refl, sym, ap, ◌∙◌, subst}
use Rattle.std.proofs.lemmas.List.{append_assoc, append-nil, length-append}
use Rattle.std.proofs.lemmas.List.Elements.{All-nil, All-cons, All-head, All-tail, All-weaker, filter-append}
use Rattle.std.specs.List.{All}
use Rattle.std.specs.Ordering.{is_lt, is_eq, is_gt, ordering_reverse}
use Rattle.std.specs.declared.cmp.Ordering.{Ordering}
use Rattle.std.specs.declared.cmp.Ordering.TheVariants.{Less, Equal, Greater}
use Rattle.rg_trie.specs.declared.pair.Held.{Held}
use Rattle.rg_trie.specs.declared.pair.Pair.{Pair}
use Rattle.rg_trie.specs.Blocks.{IsRising, pairs_of}
use Rattle.rg_trie.specs.Edited.{with_pair, without_pair}
use Rattle.rg_trie.specs.Pairs.{Below, pair_order}
use Rattle.rg_trie.specs.Sought.{IsCut, first_is}
use Rattle.rg_trie.proofs.Orders.{pair_total, less_from_lt, equal_from_eq, same_pair}
use Rattle.rg_trie.proofs.Rise.{rising_right}

pub filter_all : {X : Type 0} (test : X → Bool) (xs : List X) → All (λ x. test x ≡ true) xs → filter test xs ≡ xs
filter_all test [] a = refl
filter_all test (x ∷ xs) a = ap (λ b. cond b (x ∷ filter test xs) (filter test xs)) (All-head (λ y. test y ≡ true) x xs a)
    ∙ ap (λ ys. x ∷ ys) (filter_all test xs (All-tail (λ y. test y ≡ true) x xs a))

pub filter_none : {X : Type 0} (test : X → Bool) (xs : List X) → All (λ x. test x ≡ false) xs → filter test xs ≡ []
filter_none test [] a = refl
filter_none test (x ∷ xs) a = ap (λ b. cond b (x ∷ filter test xs) (filter test xs)) (All-head (λ y. test y ≡ false) x xs a)
    ∙ filter_none test xs (All-tail (λ y. test y ≡ false) x xs a)

lt_not_gt : (o : Ordering) → is_lt o ≡ true → is_gt o ≡ false
lt_not_gt o e = ap is_gt (less_from_lt o e)

lt_not_eq : (o : Ordering) → is_lt o ≡ true → not (is_eq o) ≡ true
lt_not_eq o e = ap (λ r. not (is_eq r)) (less_from_lt o e)

gt_not_lt : (o : Ordering) → is_gt o ≡ true → is_lt o ≡ false
gt_not_lt Less e = cc
gt_not_lt Equal e = refl
gt_not_lt Greater e = refl

gt_not_eq : (o : Ordering) → is_gt o ≡ true → not (is_eq o) ≡ true
gt_not_eq Less e = cc
gt_not_eq Equal e = cc
gt_not_eq Greater e = refl

gt_from : (o : Ordering) → is_lt o ≡ false → is_eq o ≡ false → is_gt o ≡ true
gt_from Less l e = cc
gt_from Equal l e = cc
gt_from Greater l e = refl

greater_from_gt : (o : Ordering) → is_gt o ≡ true → o ≡ Greater
greater_from_gt Less e = cc
greater_from_gt Equal e = cc
greater_from_gt Greater e = refl

module _ (p : Pair) where
  abbrev lower : Pair → Bool
  lower q = is_lt (pair_order q p)

  abbrev higher : Pair → Bool
  higher q = is_gt (pair_order q p)

  abbrev other : Pair → Bool
  other q = not (is_eq (pair_order q p))

  -- what comes after a pair that is p or comes after it
  higher_next : (y q : Pair) → lower y ≡ false → Below y q → higher q ≡ true
  higher_next y q n b = by_case (pair_order y p) refl where
    by_case : (o : Ordering) → pair_order y p ≡ o → higher q ≡ true
    by_case Less e = let bad : true ≡ false = sym (ap is_lt e) ∙ n in cc
    by_case Equal e = ap is_gt (pair_total.antisymm q p ∙ ap ordering_reverse (sym (pair_total.congr y p q e) ∙ b))
    by_case Greater e = ap is_gt (pair_total.antisymm q p ∙ ap ordering_reverse (pair_total.trans p y q (pair_total.antisymm p y ∙ ap ordering_reverse e) b))

  -- all of a list that doesn't begin with p, and of which nothing comes before p, comes after p
  pub all_higher : (ys : List Pair) → All (λ q. lower q ≡ false) ys → IsRising Below ys → first_is p ys ≡ false → All (λ q. higher q ≡ true) ys
  all_higher [] b h n = All-nil (λ q. higher q ≡ true)
  all_higher (y ∷ ys) b h n =
      let low = All-head (λ q. lower q ≡ false) y ys b in
      All-cons (λ q. higher q ≡ true) y ys (gt_from (pair_order y p) low n) (All-weaker (Below y) (λ q. higher q ≡ true) (λ q. higher_next y q low) ys h.0)

  pub after_first : (y : Pair) (ys : List Pair) → lower y ≡ false → IsRising Below (y ∷ ys) → All (λ q. higher q ≡ true) ys
  after_first y ys low h = All-weaker (Below y) (λ q. higher q ≡ true) (λ q. higher_next y q low) ys h.0

  lower_is_other : (xs : List Pair) → All (λ q. lower q ≡ true) xs → All (λ q. other q ≡ true) xs
  lower_is_other xs a = All-weaker (λ q. lower q ≡ true) (λ q. other q ≡ true) (λ q e. lt_not_eq (pair_order q p) e) xs a

  higher_is_other : (xs : List Pair) → All (λ q. higher q ≡ true) xs → All (λ q. other q ≡ true) xs
  higher_is_other xs a = All-weaker (λ q. higher q ≡ true) (λ q. other q ≡ true) (λ q e. gt_not_eq (pair_order q p) e) xs a

  lower_part : (xs ys : List Pair) → All (λ q. lower q ≡ true) xs → All (λ q. lower q ≡ false) ys → filter lower (xs ++ ys) ≡ xs
  lower_part xs ys a b = filter-append lower xs ys ∙ (λ i. filter_all lower xs a i ++ filter_none lower ys b i) ∙ append-nil xs

  higher_part : (xs ys : List Pair) → All (λ q. lower q ≡ true) xs → filter higher (xs ++ ys) ≡ filter higher ys
  higher_part xs ys a = filter-append higher xs ys
      ∙ ap (λ zs. zs ++ filter higher ys) (filter_none higher xs (All-weaker (λ q. lower q ≡ true) (λ q. higher q ≡ false) (λ q e. lt_not_gt (pair_order q p) e) xs a))

  pub with_new : (xs ys : List Pair) → All (λ q. lower q ≡ true) xs → All (λ q. lower q ≡ false) ys → IsRising Below ys → first_is p ys ≡ false → with_pair p (xs ++ ys) ≡ xs ++ p ∷ ys
  with_new xs ys a b h n = λ i. lower_part xs ys a b i ++ p ∷ after i where
    after : filter higher (xs ++ ys) ≡ ys
    after = higher_part xs ys a ∙ filter_all higher ys (all_higher ys b h n)

  pub with_same : (xs : List Pair) (y : Pair) (ys : List Pair) → All (λ q. lower q ≡ true) xs → All (λ q. lower q ≡ false) (y ∷ ys) → IsRising Below (y ∷ ys) → is_eq (pair_order y p) ≡ true → with_pair p (xs ++ y ∷ ys) ≡ xs ++ y ∷ ys
  with_same xs y ys a b h e = λ i. lower_part xs (y ∷ ys) a b i ++ same i ∷ after i where
    tie : pair_order y p ≡ Equal
    tie = equal_from_eq (pair_order y p) e

    same : p ≡ y
    same = sym (same_pair y p tie)

    after : filter higher (xs ++ y ∷ ys) ≡ ys
    after = higher_part xs (y ∷ ys) a ∙ ap (λ o. cond (is_gt o) (y ∷ filter higher ys) (filter higher ys)) tie
        ∙ filter_all higher ys (after_first y ys (All-head (λ q. lower q ≡ false) y ys b) h)

  pub without_it : (xs : List Pair) (y : Pair) (ys : List Pair) → All (λ q. lower q ≡ true) xs → All (λ q. lower q ≡ false) (y ∷ ys) → IsRising Below (y ∷ ys) → is_eq (pair_order y p) ≡ true → without_pair p (xs ++ y ∷ ys) ≡ xs ++ ys
  without_it xs y ys a b h e = filter-append other xs (y ∷ ys) ∙ (λ i. filter_all other xs (lower_is_other xs a) i ++ after i) where
    after : filter other (y ∷ ys) ≡ ys
    after = ap (λ b. cond (not b) (y ∷ filter other ys) (filter other ys)) e
        ∙ filter_all other ys (higher_is_other ys (after_first y ys (All-head (λ q. lower q ≡ false) y ys b) h))

  pub without_none : (xs ys : List Pair) → All (λ q. lower q ≡ true) xs → All (λ q. lower q ≡ false) ys → IsRising Below ys → first_is p ys ≡ false → without_pair p (xs ++ ys) ≡ xs ++ ys
  without_none xs ys a b h n = filter-append other xs ys
      ∙ (λ i. filter_all other xs (lower_is_other xs a) i ++ filter_all other ys (higher_is_other ys (all_higher ys b h n)) i)

  -- the order stays
  pub rising_between : (xs ys : List Pair) → IsRising Below (xs ++ ys) → All (λ q. lower q ≡ true) xs → All (λ q. higher q ≡ true) ys → IsRising Below (xs ++ p ∷ ys)
  rising_between [] ys h a b = (All-weaker (λ q. higher q ≡ true) (Below p) (λ q e. pair_total.antisymm p q ∙ ap ordering_reverse (greater_from_gt (pair_order q p) e)) ys b, h)
  rising_between (x ∷ xs) ys h a b =
      (All-between x xs ys h.0 (less_from_lt (pair_order x p) (All-head (λ q. lower q ≡ true) x xs a)), rising_between xs ys h.1 (All-tail (λ q. lower q ≡ true) x xs a) b) where
        All-between : (x : Pair) (xs ys : List Pair) → All (Below x) (xs ++ ys) → Below x p → All (Below x) (xs ++ p ∷ ys)
        All-between x [] ys h l = All-cons (Below x) p ys l h
        All-between x (z ∷ zs) ys h l = All-cons (Below x) z (zs ++ p ∷ ys) (All-head (Below x) z (zs ++ ys) h) (All-between x zs ys (All-tail (Below x) z (zs ++ ys) h) l)

pub rising_but_one : (xs : List Pair) (y : Pair) (ys : List Pair) → IsRising Below (xs ++ y ∷ ys) → IsRising Below (xs ++ ys)
rising_but_one [] y ys h = h.1
rising_but_one (x ∷ xs) y ys h = (all_but_one (Below x) xs y ys h.0, rising_but_one xs y ys h.1) where
  all_but_one : (P : Pair → Type 0) (xs : List Pair) (y : Pair) (ys : List Pair) → All P (xs ++ y ∷ ys) → All P (xs ++ ys)
  all_but_one P [] y ys a = All-tail P y ys a
  all_but_one P (z ∷ zs) y ys a = All-cons P z (zs ++ ys) (All-head P z (zs ++ y ∷ ys) a) (all_but_one P zs y ys (All-tail P z (zs ++ y ∷ ys) a))

regroup : (a b c d : List Pair) → (a ++ b) ++ (c ++ d) ≡ (a ++ (b ++ c)) ++ d
regroup a b c d = simp append_assoc

regroup_with : (p : Pair) (a b c d : List Pair) → (a ++ b) ++ p ∷ (c ++ d) ≡ (a ++ (b ++ p ∷ c)) ++ d
regroup_with p a b c d = simp append_assoc

-- the first of the pairs that are left is p where the first of the block is
first_on : (p : Pair) (bs ps : List Pair) → (length bs ≡ 0 → ps ≡ []) → first_is p (bs ++ ps) ≡ first_is p bs
first_on p [] ps h = ap (first_is p) (h refl)
first_on p (y ∷ ys) ps h = refl

module _ {p : Pair} {all : List Pair} {first : List Held} {front back : List Pair} {last : List Held} where
  ends : IsCut p all first front back last → length back ≡ 0 → pairs_of last ≡ []
  ends c e = ap pairs_of (c.end e)

  rises : IsCut p all first front back last → IsRising Below ((pairs_of first ++ front) ++ (back ++ pairs_of last))
  rises c = subst (IsRising Below) c.whole c.rising

  pub inserts : IsCut p all first front back last → first_is p back ≡ false → with_pair p all ≡ (pairs_of first ++ (front ++ p ∷ back)) ++ pairs_of last
  inserts c n = ap (with_pair p) c.whole
      ∙ with_new p (pairs_of first ++ front) (back ++ pairs_of last) c.passed c.left (rising_right Below (pairs_of first ++ front) (back ++ pairs_of last) (rises c)) (first_on p back (pairs_of last) (ends c) ∙ n)
      ∙ simp append_assoc

  pub inserts_rising : IsCut p all first front back last → first_is p back ≡ false → IsRising Below ((pairs_of first ++ (front ++ p ∷ back)) ++ pairs_of last)
  inserts_rising c n =
      let right = rising_right Below (pairs_of first ++ front) (back ++ pairs_of last) (rises c) in
      let ordered = rising_between p (pairs_of first ++ front) (back ++ pairs_of last) (rises c) c.passed (all_higher p (back ++ pairs_of last) c.left right (first_on p back (pairs_of last) (ends c) ∙ n)) in
      subst (IsRising Below) (regroup_with p (pairs_of first) front back (pairs_of last)) ordered

  pub inserts_length : IsCut p all first front back last → length ((pairs_of first ++ (front ++ p ∷ back)) ++ pairs_of last) ≡ length all + 1
  inserts_length c = grind (arith, length-append, c.whole)

  pub inserts_none : IsCut p all first front back last → first_is p back ≡ true → with_pair p all ≡ all
  inserts_none c n = by_case back refl where
    by_case : (bs : List Pair) → back ≡ bs → with_pair p all ≡ all
    by_case [] e = let bad : false ≡ true = sym (ap (first_is p) e) ∙ n in cc
    by_case (y ∷ ys) e =
        let whole : all ≡ (pairs_of first ++ front) ++ y ∷ (ys ++ pairs_of last) = c.whole ∙ ap (λ bs. (pairs_of first ++ front) ++ (bs ++ pairs_of last)) e in
        let left = subst (λ bs. All (λ q. is_lt (pair_order q p) ≡ false) (bs ++ pairs_of last)) e c.left in
        let right = rising_right Below (pairs_of first ++ front) (y ∷ (ys ++ pairs_of last)) (subst (IsRising Below) whole c.rising) in
        ap (with_pair p) whole ∙ with_same p (pairs_of first ++ front) y (ys ++ pairs_of last) c.passed left right (sym (ap (first_is p) e) ∙ n) ∙ sym whole

  pub removes : IsCut p all first front back last → first_is p back ≡ true → without_pair p all ≡ (pairs_of first ++ (front ++ drop 1 back)) ++ pairs_of last
  removes c n = by_case back refl where
    by_case : (bs : List Pair) → back ≡ bs → without_pair p all ≡ (pairs_of first ++ (front ++ drop 1 back)) ++ pairs_of last
    by_case [] e = let bad : false ≡ true = sym (ap (first_is p) e) ∙ n in cc
    by_case (y ∷ ys) e =
        let whole : all ≡ (pairs_of first ++ front) ++ y ∷ (ys ++ pairs_of last) = c.whole ∙ ap (λ bs. (pairs_of first ++ front) ++ (bs ++ pairs_of last)) e in
        let left = subst (λ bs. All (λ q. is_lt (pair_order q p) ≡ false) (bs ++ pairs_of last)) e c.left in
        let right = rising_right Below (pairs_of first ++ front) (y ∷ (ys ++ pairs_of last)) (subst (IsRising Below) whole c.rising) in
        ap (without_pair p) whole ∙ without_it p (pairs_of first ++ front) y (ys ++ pairs_of last) c.passed left right (sym (ap (first_is p) e) ∙ n)
        ∙ regroup (pairs_of first) front ys (pairs_of last) ∙ ap (λ bs. (pairs_of first ++ (front ++ drop 1 bs)) ++ pairs_of last) (sym e)

  pub removes_rising : IsCut p all first front back last → first_is p back ≡ true → IsRising Below ((pairs_of first ++ (front ++ drop 1 back)) ++ pairs_of last)
  removes_rising c n = by_case back refl where
    by_case : (bs : List Pair) → back ≡ bs → IsRising Below ((pairs_of first ++ (front ++ drop 1 back)) ++ pairs_of last)
    by_case [] e = let bad : false ≡ true = sym (ap (first_is p) e) ∙ n in cc
    by_case (y ∷ ys) e =
        let whole : all ≡ (pairs_of first ++ front) ++ y ∷ (ys ++ pairs_of last) = c.whole ∙ ap (λ bs. (pairs_of first ++ front) ++ (bs ++ pairs_of last)) e in
        subst (IsRising Below) (regroup (pairs_of first) front ys (pairs_of last) ∙ ap (λ bs. (pairs_of first ++ (front ++ drop 1 bs)) ++ pairs_of last) (sym e))
        (rising_but_one (pairs_of first ++ front) y (ys ++ pairs_of last) (subst (IsRising Below) whole c.rising))

  pub removes_length : IsCut p all first front back last → first_is p back ≡ true → length all ≡ length ((pairs_of first ++ (front ++ drop 1 back)) ++ pairs_of last) + 1
  removes_length c n = by_case back refl where
    by_case : (bs : List Pair) → back ≡ bs → length all ≡ length ((pairs_of first ++ (front ++ drop 1 back)) ++ pairs_of last) + 1
    by_case [] e = let bad : false ≡ true = sym (ap (first_is p) e) ∙ n in cc
    by_case (y ∷ ys) e = ap length c.whole ∙ ap (λ bs. length ((pairs_of first ++ front) ++ (bs ++ pairs_of last))) e ∙ counts ∙ ap (λ bs. length ((pairs_of first ++ (front ++ drop 1 bs)) ++ pairs_of last) + 1) (sym e) where
      counts : length ((pairs_of first ++ front) ++ (y ∷ ys ++ pairs_of last)) ≡ length ((pairs_of first ++ (front ++ ys)) ++ pairs_of last) + 1
      counts = grind (arith, length-append)

  pub removes_none : IsCut p all first front back last → first_is p back ≡ false → without_pair p all ≡ all
  removes_none c n = ap (without_pair p) c.whole
      ∙ without_none p (pairs_of first ++ front) (back ++ pairs_of last) c.passed c.left (rising_right Below (pairs_of first ++ front) (back ++ pairs_of last) (rises c)) (first_on p back (pairs_of last) (ends c) ∙ n)
      ∙ sym c.whole
