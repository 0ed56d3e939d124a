use Rattle.std.proofs.Common.{◌≡◌, drop}
use Rattle.std.specs.List.{list_all}
use Rattle.rg_validate.specs.Valid.{policy_valid}
use Rattle.rg_validate.proofs.valid.policies_valid.Given as goal

-- the rest decides
abbrev pub invariant-loop-policy : goal.invariant-loop-policy
invariant-loop-policy l = list_all (policy_valid l.state) (drop l.policy-index l.state.policies.items) ≡ list_all (policy_valid l.state) l.state.policies.items
