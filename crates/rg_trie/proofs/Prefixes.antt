-- A key that is a prefix of a text, and the order of keys.
use Rattle.std.proofs.Common.{◌≡◌, ℕ, ◌<◌, ◌≤◌, zero, suc, Bool, true, false, List, [], ◌∷◌, length, get_or, take, filter, cond, refl, sym, ap, ◌∙◌, arith, inl, inr}
use Rattle.std.proofs.lemmas.Bool.{cases_lt, both_ways}
use Rattle.std.proofs.lemmas.Bool.Decides.{nat_tests}
use Rattle.std.proofs.lemmas.Cmp.{nat_list_cmp_total, nat_cmp_total, tied_itself}
use Rattle.std.proofs.lemmas.List.Elements.{All-filter, filter_passes}
use Rattle.std.proofs.lemmas.Slice.Eq.{bytes_eq-Decides}
use Rattle.std.specs.Cmp.Lexicographic.{slice_cmp}
use Rattle.std.specs.List.{AllPairs}
use Rattle.std.specs.Ordering.{nat_cmp, ordering_then, ordering_reverse, is_gt}
use Rattle.std.specs.declared.cmp.Ordering.{Ordering}
use Rattle.std.specs.declared.cmp.Ordering.TheVariants.{Less, Equal, Greater}
use Rattle.rg_trie.specs.declared.pair.Pair.{Pair}
use Rattle.rg_trie.specs.Blocks.{IsRising}
use Rattle.rg_trie.specs.Pairs.{Below, entry_order}
use Rattle.rg_trie.specs.Walked.{ShorterFirst, is_under, pairs_under}
use Rattle.rg_trie.proofs.Orders.{same_key}
use Rattle.rg_trie.proofs.Rise.{rises_at}

abbrev keys : List ℕ → List ℕ → Ordering
keys = slice_cmp nat_cmp

-- a shorter prefix of a text isn't above a longer one
prefix_up : (v : List ℕ) (m n : ℕ) → m ≤ n → is_gt (keys (take m v) (take n v)) ≡ false
prefix_up [] zero zero l = refl
prefix_up [] zero (suc n) l = refl
prefix_up [] (suc m) zero l = refl
prefix_up [] (suc m) (suc n) l = refl
prefix_up (x ∷ xs) zero zero l = refl
prefix_up (x ∷ xs) zero (suc n) l = refl
prefix_up (x ∷ xs) (suc m) zero l = absurd (omega arith)
prefix_up (x ∷ xs) (suc m) (suc n) l =
    ap (λ o. is_gt (ordering_then o (keys (take m xs) (take n xs)))) (tied_itself nat_cmp_total x) ∙ prefix_up xs m n (omega arith)

-- the key of a pair under a text is a front of the text
pub under_front : (text : List ℕ) (p : Pair) → is_under text p ≡ true → p.key ≡ take (length p.key) text
under_front text p u = (bytes_eq-Decides p.key (take (length p.key) text)).0 u

-- of two pairs under one text the one that comes first has the shorter key, or the lesser entry under the same key
pub shorter : (text : List ℕ) (p q : Pair) → is_under text p ≡ true → is_under text q ≡ true → Below p q → ShorterFirst p q
shorter text p q u v b = by_case (keys p.key q.key) refl b where
  below : (m n : ℕ) → m < n → nat_cmp m n ≡ Less
  below m n l = grind (arith, nat_tests)

  by_case : (o : Ordering) → keys p.key q.key ≡ o → ordering_then o (entry_order p.entry q.entry) ≡ Less → ShorterFirst p q
  by_case Less e h = elim (cases_lt (length p.key) (length q.key)) [
    | inl lt ↦ ap (λ o. ordering_then o (entry_order p.entry q.entry)) (below (length p.key) (length q.key) lt)
    | inr ge ↦
        let up = prefix_up text (length q.key) (length p.key) ge in
        let down : is_gt (keys q.key p.key) ≡ true = ap is_gt (nat_list_cmp_total.antisymm q.key p.key ∙ ap ordering_reverse e) in
        absurd (both_ways _ ((λ i. is_gt (keys (under_front text q v i) (under_front text p u i))) ∙ up) down)
  ]
  by_case Equal e h = ap (λ o. ordering_then o (entry_order p.entry q.entry)) (ap (λ k. nat_cmp (length p.key) (length k)) (sym (same_key p.key q.key e)) ∙ tied_itself nat_cmp_total (length p.key)) ∙ h
  by_case Greater e h = cc

pub rising_filter : {X : Type 0} (R : X → X → Type 0) (test : X → Bool) (xs : List X) → IsRising R xs → IsRising R (filter test xs)
rising_filter R test [] h = h
rising_filter R test (x ∷ xs) h = elim (test x) as (λ b. IsRising R (cond b (x ∷ filter test xs) (filter test xs))) [
  | true ↦ (All-filter test (R x) xs h.0, rising_filter R test xs h.1)
  | false ↦ rising_filter R test xs h.1
]

-- the pairs under a text stand with the shorter keys first
pub under_in_order : (text : List ℕ) (pairs : List Pair) → IsRising Below pairs → AllPairs ShorterFirst (pairs_under text pairs)
under_in_order text pairs h i j d b l =
    let under = filter_passes (is_under text) pairs in
    shorter text (get_or (pairs_under text pairs) i d) (get_or (pairs_under text pairs) j d) (under i d (omega arith)) (under j d l) (rises_at Below (pairs_under text pairs) (rising_filter Below (is_under text) pairs h) i j d b l)
