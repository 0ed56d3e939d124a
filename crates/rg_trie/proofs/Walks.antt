-- One step of a walk.
use Rattle.std.proofs.Common.{◌≡◌, ◌≤◌, ℕ, List, [], ◌∷◌, ◌++◌, filter, length, sym, ap, subst, arith}
use Rattle.std.proofs.lemmas.List.{length-map}
use Rattle.std.proofs.lemmas.List.Elements.{All-tail}
use Rattle.std.proofs.lemmas.List.Sums.{count_by-le-length, length-filter}
use Rattle.rg_trie.specs.declared.pair.Held.{Held}
use Rattle.rg_trie.specs.declared.pair.Pair.{Pair}
use Rattle.rg_trie.specs.Blocks.{IsRising, IsSized, block_pairs, pairs_of}
use Rattle.rg_trie.specs.Pairs.{Below}
use Rattle.rg_trie.specs.Sought.{IsWalking}
use Rattle.rg_trie.specs.Walked.{entries_under, is_under}

pub first_left : (back others : List Pair) (after : List Held) (p : Pair) → back ≡ p ∷ others → back ++ pairs_of after ≡ p ∷ (others ++ pairs_of after)
first_left back others after p e = ap (λ xs. xs ++ pairs_of after) e

-- a walk goes on in the next block
pub opens : (back : List Pair) (after : List Held) (h : Held) (others : List Held) (pairs : List Pair) → length back ≡ 0 → after ≡ h ∷ others → pairs ≡ block_pairs h → IsWalking back after → IsWalking pairs others
opens (p ∷ back) after h others pairs b a e w = absurd (omega arith)
opens [] after h others pairs b a e w =
    let ahead : IsWalking [] (h ∷ others) = subst (IsWalking []) a w in
    record {
      rising = subst (λ xs. IsRising Below (xs ++ pairs_of others)) (sym e) ahead.rising;
      sized = All-tail IsSized h others ahead.sized;
      counted = ahead.counted.1;
    }

-- a text has no more entries than there are pairs
pub entries_fewer : (text : List ℕ) (all : List Pair) → length (entries_under text all) ≤ length all
entries_fewer text all = omega (arith, length-map (filter (is_under text) all) (λ (p : Pair). p.entry), length-filter (is_under text) all, count_by-le-length (is_under text) all)
