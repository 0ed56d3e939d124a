-- How the counts of prints follow the policies, one after the other.
use Rattle.std.proofs.Common.{◌≡◌, ◌<◌, ◌+◌, ℕ, List, take, length, get_or, arith, ap}
use Rattle.std.proofs.lemmas.List.Sums.{sum_by_more}
use Rattle.rg_policy.specs.declared.policy.Policy.{Policy}
use Rattle.rg_same_resources.specs.Counts.{IsAdded, IsCounted, has_print}
use Rattle.rg_same_resources.specs.Prints.{prints_of}

-- one more policy is counted
pub counted_more : (before after : List (ℕ × ℕ)) (ps : List Policy) (i : ℕ) (p : Policy) → i < length ps → p ≡ get_or ps i p → IsCounted before (take i ps)
    → IsAdded (prints_of p) before after → IsCounted after (take (i + 1) ps)
unfolding IsCounted
counted_more before after ps i p within is counted added k =
    let old = counted k in
    let more = added k in
    let sum = sum_by_more (has_print k) ps i p within in
    let here = ap (has_print k) is in
    omega (arith, old, more, sum, here)
