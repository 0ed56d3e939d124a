-- The entries under a text, prefix by prefix.
use Rattle.std.proofs.Common.{◌≡◌, ℕ, ◌<◌, ◌≤◌, suc, Bool, true, false, not, ◌&&◌, List, [], ◌∷◌, ◌++◌, length, get_or, take, map, filter, refl, sym, ap, ◌∙◌, subst, arith, inl, inr, append_assoc}
use Rattle.std.proofs.lemmas.Bool.{both_ways, false_from_ne_true, cases_lt}
use Rattle.std.proofs.lemmas.Bool.Decides.{nat_tests}
use Rattle.std.proofs.lemmas.List.{map-append, append-nil, length-append, length-take-le, take_at, take_all}
use Rattle.std.proofs.lemmas.Slice.Eq.{bytes_eq-Decides}
use Rattle.std.specs.Bool.{nat_lt}
use Rattle.std.specs.List.{All}
use Rattle.std.specs.Ordering.{nat_cmp, ordering_then}
use Rattle.std.specs.declared.cmp.Ordering.{Ordering}
use Rattle.std.specs.declared.cmp.Ordering.TheVariants.{Less}
use Rattle.rg_trie.specs.declared.pair.Pair.{Pair}
use Rattle.rg_trie.specs.Blocks.{IsRising}
use Rattle.rg_trie.specs.Keyed.{entries_of_key, has_key, prefix_entries}
use Rattle.rg_trie.specs.Pairs.{Below, entry_order}
use Rattle.rg_trie.specs.Walked.{entries_under, is_under}
use Rattle.rg_trie.proofs.Edits.{filter_none}
use Rattle.rg_trie.proofs.Prefixes.{shorter, under_front}

-- under the text, with a key of so many characters at least
abbrev at_least : ℕ → List ℕ → Pair → Bool
at_least n text p = is_under text p && not (nat_lt (length p.key) n)

-- what a pair is at one length: its key is the prefix of that length, or longer and a prefix too, or neither
data Standing (n : ℕ) (text : List ℕ) (p : Pair) : Type 0 where
  here : has_key (take n text) p ≡ true → at_least n text p ≡ true → at_least (suc n) text p ≡ false → Standing n text p
  later : has_key (take n text) p ≡ false → at_least n text p ≡ true → at_least (suc n) text p ≡ true → Standing n text p
  never : has_key (take n text) p ≡ false → at_least n text p ≡ false → at_least (suc n) text p ≡ false → Standing n text p

module _ (n : ℕ) (text : List ℕ) (within : n ≤ length text) where
  lt_true : (a b : ℕ) → a < b → nat_lt a b ≡ true
  lt_true a b l = grind (arith, nat_tests)

  lt_false : (a b : ℕ) → b ≤ a → nat_lt a b ≡ false
  lt_false a b l = grind (arith, nat_tests)

  long : (p : Pair) → has_key (take n text) p ≡ true → length p.key ≡ n
  long p h = ap length ((bytes_eq-Decides p.key (take n text)).0 h) ∙ length-take-le n text within

  has_from : (p : Pair) → is_under text p ≡ true → length p.key ≡ n → has_key (take n text) p ≡ true
  has_from p u e = (bytes_eq-Decides p.key (take n text)).1 (under_front text p u ∙ ap (λ k. take k text) e)

  under_from : (p : Pair) → has_key (take n text) p ≡ true → is_under text p ≡ true
  under_from p h = (bytes_eq-Decides p.key (take (length p.key) text)).1 ((bytes_eq-Decides p.key (take n text)).0 h ∙ ap (λ k. take k text) (sym (long p h)))

  standing : (p : Pair) → Standing n text p
  standing p = by_case (has_key (take n text) p) (is_under text p) refl refl where
    by_case : (h u : Bool) → has_key (take n text) p ≡ h → is_under text p ≡ u → Standing n text p
    by_case true true h u =
        let a = lt_false (length p.key) n (omega (arith, long p h)) in
        let b = lt_true (length p.key) (suc n) (omega (arith, long p h)) in
        here h (grind (arith, u, a)) (grind (arith, u, b))
    by_case true false h u = absurd (both_ways _ u (under_from p h))
    by_case false true h u = elim (cases_lt n (length p.key)) [
      | inl lt ↦
          let a = lt_false (length p.key) n (omega arith) in
          let b = lt_false (length p.key) (suc n) (omega arith) in
          later h (grind (arith, u, a)) (grind (arith, u, b))
      | inr ge ↦ elim (cases_lt (length p.key) n) [
        | inl lt ↦
            let a = lt_true (length p.key) n lt in
            let b = lt_true (length p.key) (suc n) (omega arith) in
            never h (grind (arith, u, a)) (grind (arith, u, b))
        | inr ge2 ↦ absurd (both_ways _ h (has_from p u (omega arith)))
      ]
    ]
    by_case false false h u = never h (grind (arith, u)) (grind (arith, u))

  not_less : (m k : ℕ) (o : Ordering) → k < m → ordering_then (nat_cmp m k) o ≡ Less → ⊥
  not_less m k o l e = grind (arith, nat_tests, e)

  -- behind a longer key no pair has the prefix
  none_behind : (p : Pair) (ps : List Pair) → IsRising Below (p ∷ ps) → is_under text p ≡ true → n < length p.key → All (λ q. has_key (take n text) q ≡ false) ps
  none_behind p ps r u l k d within_ps = false_from_ne_true _ (λ h.
      let q = get_or ps k d in
      not_less (length p.key) (length q.key) (entry_order p.entry q.entry) (omega (arith, long q h)) (shorter text p q u (under_from q h) (r.0 k d within_ps)))

  split : (ps : List Pair) → IsRising Below ps → filter (at_least n text) ps ≡ filter (has_key (take n text)) ps ++ filter (at_least (suc n) text) ps
  split [] r = refl
  split (p ∷ ps) r = step (standing p) (split ps r.1) where
    parts : at_least (suc n) text p ≡ true → (is_under text p ≡ true) × (n < length p.key)
    parts a = by_case (is_under text p) (nat_lt (length p.key) (suc n)) refl refl where
      by_case : (u b : Bool) → is_under text p ≡ u → nat_lt (length p.key) (suc n) ≡ b → (is_under text p ≡ true) × (n < length p.key)
      by_case true false u b = (u, grind (arith, nat_tests, b))
      by_case true true u b = absurd (grind (arith, a, u, b))
      by_case false b u c = absurd (grind (arith, a, u))

    step : Standing n text p → filter (at_least n text) ps ≡ filter (has_key (take n text)) ps ++ filter (at_least (suc n) text) ps → filter (at_least n text) (p ∷ ps) ≡ filter (has_key (take n text)) (p ∷ ps) ++ filter (at_least (suc n) text) (p ∷ ps)
    step (here h a b) again = grind (arith, h, a, b, again)
    step (later h a b) again =
        let none = filter_none (has_key (take n text)) ps (none_behind p ps r (parts b).0 (parts b).1) in
        grind (arith, h, a, b, again, none)
    step (never h a b) again = grind (arith, h, a, b, again)

short_key : (text : List ℕ) (p : Pair) → is_under text p ≡ true → length p.key ≤ length text
short_key text p u = elim (cases_lt (length text) (length p.key)) [
  | inl lt ↦ omega (arith, ap length (under_front text p u ∙ take_all (length p.key) text (omega arith)))
  | inr ge ↦ ge
]

-- no key under a text is longer than the text
none_longer : (text : List ℕ) (ps : List Pair) → filter (at_least (suc (length text)) text) ps ≡ []
none_longer text ps = filter_none (at_least (suc (length text)) text) ps (λ k d l. no (get_or ps k d)) where
  no : (p : Pair) → at_least (suc (length text)) text p ≡ false
  no p = by_case (is_under text p) refl where
    by_case : (u : Bool) → is_under text p ≡ u → at_least (suc (length text)) text p ≡ false
    by_case false u = grind (arith, u)
    by_case true u =
        let short : length p.key ≤ length text = short_key text p u in
        let b : nat_lt (length p.key) (suc (length text)) ≡ true = grind (arith, nat_tests, short) in
        grind (arith, u, b)

from_prefix : (seen rest : List ℕ) (ps : List Pair) → IsRising Below ps → prefix_entries seen rest ps ≡ map (λ (p : Pair). p.entry) (filter (at_least (length seen) (seen ++ rest)) ps)
from_prefix seen [] ps r =
    let text : seen ++ [] ≡ seen = append-nil seen in
    subst (λ t. entries_of_key seen ps ≡ map (λ (p : Pair). p.entry) (filter (at_least (length seen) t) ps)) (sym text)
    (ap (map (λ (p : Pair). p.entry)) (sym (split (length seen) seen (omega arith) ps r
    ∙ ap (λ k. filter (has_key k) ps ++ filter (at_least (suc (length seen)) seen) ps) (take_all (length seen) seen (omega arith))
    ∙ ap (λ xs. filter (has_key seen) ps ++ xs) (none_longer seen ps) ∙ append-nil (filter (has_key seen) ps))))
from_prefix seen (c ∷ rest) ps r =
    let text = seen ++ c ∷ rest in
    let same : (seen ++ c ∷ []) ++ rest ≡ text = append_assoc seen (c ∷ []) rest in
    let count : length (seen ++ c ∷ []) ≡ suc (length seen) = grind (arith, length-append seen (c ∷ [])) in
    let again = from_prefix (seen ++ c ∷ []) rest ps r
    ∙ ap (λ t. map (λ (p : Pair). p.entry) (filter (at_least (length (seen ++ c ∷ [])) t) ps)) same
    ∙ ap (λ n. map (λ (p : Pair). p.entry) (filter (at_least n text) ps)) count in
    let front : take (length seen) text ≡ seen = take_at seen (c ∷ rest) (length seen) refl in
    let parts = split (length seen) text (omega (arith, length-append seen (c ∷ rest))) ps r
    ∙ ap (λ k. filter (has_key k) ps ++ filter (at_least (suc (length seen)) text) ps) front in
    ap (λ xs. entries_of_key seen ps ++ xs) again
    ∙ sym (map-append (λ (p : Pair). p.entry) (filter (has_key seen) ps) (filter (at_least (suc (length seen)) text) ps))
    ∙ ap (map (λ (p : Pair). p.entry)) (sym parts)

-- the entries of all prefixes, the shorter first, are those that a walk gives
pub prefixes_are_under : (text : List ℕ) (ps : List Pair) → IsRising Below ps → prefix_entries [] text ps ≡ entries_under text ps
prefixes_are_under text ps r = from_prefix [] text ps r ∙ ap (map (λ (p : Pair). p.entry)) (all ps) where
  same : (p : Pair) → at_least 0 text p ≡ is_under text p
  same p = by_case (is_under text p) refl where
    by_case : (u : Bool) → is_under text p ≡ u → at_least 0 text p ≡ is_under text p
    by_case true u = let b : nat_lt (length p.key) 0 ≡ false = grind (arith, nat_tests) in grind (arith, u, b)
    by_case false u = grind (arith, u)

  all : (ps : List Pair) → filter (at_least 0 text) ps ≡ filter (is_under text) ps
  all [] = refl
  all (p ∷ ps) = let s = same p in let again = all ps in grind (arith, s, again)
