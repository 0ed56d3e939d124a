-- A list of pairs, key by key.
use Rattle.std.proofs.Common.{◌≡◌, ℕ, Bool, true, false, not, List, [], ◌∷◌, ◌++◌, map, filter, cond, refl, sym, ap, ◌∙◌, arith}
use Rattle.std.proofs.lemmas.Bool.{both_ways}
use Rattle.std.proofs.lemmas.Cmp.{nat_list_cmp_total, tied_itself}
use Rattle.std.proofs.lemmas.List.{map-append, append-nil}
use Rattle.std.proofs.lemmas.List.Elements.{filter-append}
use Rattle.std.proofs.lemmas.Slice.Eq.{bytes_eq-Decides}
use Rattle.std.specs.Cmp.Lexicographic.{slice_cmp}
use Rattle.std.specs.Ordering.{nat_cmp, ordering_then, is_lt, is_eq, is_gt}
use Rattle.std.specs.declared.cmp.Ordering.{Ordering}
use Rattle.std.specs.declared.cmp.Ordering.TheVariants.{Less, Equal, Greater}
use Rattle.rg_trie.specs.declared.pair.Filed.{Filed}
use Rattle.rg_trie.specs.declared.pair.Pair.{Pair}
use Rattle.rg_trie.specs.Edited.{with_pair, without_pair}
use Rattle.rg_trie.specs.Keyed.{entries_of_key, has_key, with_entry, without_entry}
use Rattle.rg_trie.specs.Pairs.{entry_order, pair_order}
use Rattle.rg_trie.proofs.Orders.{same_key}

pub has_its_key : (key : List ℕ) (p : Pair) → has_key key p ≡ true → p.key ≡ key
has_its_key key p h = (bytes_eq-Decides p.key key).0 h

pub keyed_append : (key : List ℕ) (ps qs : List Pair) → entries_of_key key (ps ++ qs) ≡ entries_of_key key ps ++ entries_of_key key qs
keyed_append key ps qs = ap (map (λ (p : Pair). p.entry)) (filter-append (has_key key) ps qs) ∙ map-append (λ (p : Pair). p.entry) (filter (has_key key) ps) (filter (has_key key) qs)

module _ (key : List ℕ) (test : Pair → Bool) where
  -- a test that asks the entries of this key alone
  keyed_filter : (asks : Filed → Bool) → ((p : Pair) → p.key ≡ key → test p ≡ asks p.entry) → (ps : List Pair) → entries_of_key key (filter test ps) ≡ filter asks (entries_of_key key ps)
  keyed_filter asks same [] = refl
  keyed_filter asks same (p ∷ ps) = by_case (keyed_filter asks same ps) (has_key key p) (test p) refl refl where
    by_case : entries_of_key key (filter test ps) ≡ filter asks (entries_of_key key ps) → (h t : Bool) → has_key key p ≡ h → test p ≡ t → entries_of_key key (filter test (p ∷ ps)) ≡ filter asks (entries_of_key key (p ∷ ps))
    by_case again true true h t = let a = sym (same p (has_its_key key p h)) ∙ t in grind (arith, h, t, a, again)
    by_case again true false h t = let a = sym (same p (has_its_key key p h)) ∙ t in grind (arith, h, t, a, again)
    by_case again false true h t = grind (arith, h, t, again)
    by_case again false false h t = grind (arith, h, t, again)

  -- a test that all pairs of this key pass
  keyed_all : ((p : Pair) → p.key ≡ key → test p ≡ true) → (ps : List Pair) → entries_of_key key (filter test ps) ≡ entries_of_key key ps
  keyed_all pass [] = refl
  keyed_all pass (p ∷ ps) = by_case (keyed_all pass ps) (has_key key p) (test p) refl refl where
    by_case : entries_of_key key (filter test ps) ≡ entries_of_key key ps → (h t : Bool) → has_key key p ≡ h → test p ≡ t → entries_of_key key (filter test (p ∷ ps)) ≡ entries_of_key key (p ∷ ps)
    by_case again true true h t = grind (arith, h, t, again)
    by_case again true false h t = absurd (both_ways _ t (pass p (has_its_key key p h)))
    by_case again false true h t = grind (arith, h, t, again)
    by_case again false false h t = grind (arith, h, t, again)

  -- a test that none of them passes
  keyed_none : ((p : Pair) → p.key ≡ key → test p ≡ false) → (ps : List Pair) → entries_of_key key (filter test ps) ≡ []
  keyed_none fail [] = refl
  keyed_none fail (p ∷ ps) = by_case (keyed_none fail ps) (has_key key p) (test p) refl refl where
    by_case : entries_of_key key (filter test ps) ≡ [] → (h t : Bool) → has_key key p ≡ h → test p ≡ t → entries_of_key key (filter test (p ∷ ps)) ≡ []
    by_case again true true h t = absurd (both_ways _ (fail p (has_its_key key p h)) t)
    by_case again true false h t = grind (arith, h, t, again)
    by_case again false true h t = grind (arith, h, t, again)
    by_case again false false h t = grind (arith, h, t, again)

module _ (key : List ℕ) (p : Pair) where
  -- two pairs of one key stand as their entries do
  order_at : p.key ≡ key → (q : Pair) → q.key ≡ key → pair_order q p ≡ entry_order q.entry p.entry
  order_at e q f = ap (λ o. ordering_then o (entry_order q.entry p.entry)) (ap (λ k. slice_cmp nat_cmp k p.key) (f ∙ sym e) ∙ tied_itself nat_list_cmp_total p.key)

  -- pairs of another key stand as the keys do
  order_by : (o : Ordering) → slice_cmp nat_cmp key p.key ≡ o → (q : Pair) → q.key ≡ key → pair_order q p ≡ ordering_then o (entry_order q.entry p.entry)
  order_by o e q f = ap (λ o. ordering_then o (entry_order q.entry p.entry)) (ap (λ k. slice_cmp nat_cmp k p.key) f ∙ e)

  single : (e : p.key ≡ key) → entries_of_key key (p ∷ []) ≡ p.entry ∷ []
  single e = ap (λ b. map (λ (p : Pair). p.entry) (cond b (p ∷ []) [])) ((bytes_eq-Decides p.key key).1 e)

  none_single : has_key key p ≡ false → entries_of_key key (p ∷ []) ≡ []
  none_single e = ap (λ b. map (λ (p : Pair). p.entry) (cond b (p ∷ []) [])) e

  -- an entry more under its key
  pub keyed_with_same : p.key ≡ key → (ps : List Pair) → entries_of_key key (with_pair p ps) ≡ with_entry p.entry (entries_of_key key ps)
  keyed_with_same e ps =
      let low = filter (λ q. is_lt (pair_order q p)) ps in
      let high = filter (λ q. is_gt (pair_order q p)) ps in
      let a = keyed_filter key (λ q. is_lt (pair_order q p)) (λ x. is_lt (entry_order x p.entry)) (λ q f. ap is_lt (order_at e q f)) ps in
      let b = keyed_filter key (λ q. is_gt (pair_order q p)) (λ x. is_gt (entry_order x p.entry)) (λ q f. ap is_gt (order_at e q f)) ps in
      keyed_append key low (p ∷ high) ∙ ap (λ xs. xs ++ entries_of_key key (p ∷ high)) a
      ∙ ap (λ xs. filter (λ x. is_lt (entry_order x p.entry)) (entries_of_key key ps) ++ xs) (keyed_append key (p ∷ []) high ∙ ap (λ xs. xs ++ entries_of_key key high) (single e) ∙ ap (λ xs. p.entry ∷ xs) b)

  parts : has_key key p ≡ false → (low high : List Pair) → entries_of_key key (low ++ p ∷ high) ≡ entries_of_key key low ++ entries_of_key key high
  parts d low high = keyed_append key low (p ∷ high) ∙ ap (λ xs. entries_of_key key low ++ xs) (keyed_append key (p ∷ []) high ∙ ap (λ xs. xs ++ entries_of_key key high) (none_single d))

  -- and nothing changes under other keys
  pub keyed_with_other : has_key key p ≡ false → (ps : List Pair) → entries_of_key key (with_pair p ps) ≡ entries_of_key key ps
  keyed_with_other d ps = by_case (slice_cmp nat_cmp key p.key) refl where
    by_case : (o : Ordering) → slice_cmp nat_cmp key p.key ≡ o → entries_of_key key (with_pair p ps) ≡ entries_of_key key ps
    by_case Less e =
        let low = filter (λ q. is_lt (pair_order q p)) ps in
        let high = filter (λ q. is_gt (pair_order q p)) ps in
        let a = keyed_all key (λ q. is_lt (pair_order q p)) (λ q f. ap is_lt (order_by Less e q f)) ps in
        let b = keyed_none key (λ q. is_gt (pair_order q p)) (λ q f. ap is_gt (order_by Less e q f)) ps in
        parts d low high ∙ ap (λ xs. xs ++ entries_of_key key high) a ∙ ap (λ xs. entries_of_key key ps ++ xs) b ∙ append-nil (entries_of_key key ps)
    by_case Equal e = absurd (both_ways _ d ((bytes_eq-Decides p.key key).1 (sym (same_key key p.key e))))
    by_case Greater e =
        let low = filter (λ q. is_lt (pair_order q p)) ps in
        let high = filter (λ q. is_gt (pair_order q p)) ps in
        let a = keyed_none key (λ q. is_lt (pair_order q p)) (λ q f. ap is_lt (order_by Greater e q f)) ps in
        let b = keyed_all key (λ q. is_gt (pair_order q p)) (λ q f. ap is_gt (order_by Greater e q f)) ps in
        parts d low high ∙ ap (λ xs. xs ++ entries_of_key key high) a ∙ b

  pub keyed_without_same : p.key ≡ key → (ps : List Pair) → entries_of_key key (without_pair p ps) ≡ without_entry p.entry (entries_of_key key ps)
  keyed_without_same e ps = keyed_filter key (λ q. not (is_eq (pair_order q p))) (λ x. not (is_eq (entry_order x p.entry))) (λ q f. ap (λ o. not (is_eq o)) (order_at e q f)) ps

  pub keyed_without_other : has_key key p ≡ false → (ps : List Pair) → entries_of_key key (without_pair p ps) ≡ entries_of_key key ps
  keyed_without_other d ps = keyed_all key (λ q. not (is_eq (pair_order q p))) (λ q f. by_case (slice_cmp nat_cmp key p.key) refl q f) ps where
    by_case : (o : Ordering) → slice_cmp nat_cmp key p.key ≡ o → (q : Pair) → q.key ≡ key → not (is_eq (pair_order q p)) ≡ true
    by_case Less e q f = ap (λ o. not (is_eq o)) (order_by Less e q f)
    by_case Equal e q f = absurd (both_ways _ d ((bytes_eq-Decides p.key key).1 (sym (same_key key p.key e))))
    by_case Greater e q f = ap (λ o. not (is_eq o)) (order_by Greater e q f)
