use Rattle.std.proofs.Common.{◌≡◌, drop}
use Rattle.std.specs.List.{find}
use Rattle.rg_grant.specs.Planning.{is_for, policy_for}
use Rattle.rg_grant.proofs.matching.policy_for.Given as goal

-- the rest decides
abbrev pub invariant-loop-policy : goal.invariant-loop-policy
invariant-loop-policy l = find (is_for l.row) (drop l.policy-index l.state.policies.items) ≡ policy_for l.state l.row
