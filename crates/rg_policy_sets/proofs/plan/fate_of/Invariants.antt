use Rattle.std.proofs.Common.{◌≡◌, take}
use Rattle.rg_policy_sets.specs.Plan.{fate_of}
use Rattle.rg_policy_sets.proofs.plan.fate_of.Given as goal

-- what was said so far
abbrev pub invariant-loop-place : goal.invariant-loop-place
invariant-loop-place g l = l.fate ≡ fate_of (take l.place-index l.places) l.id
