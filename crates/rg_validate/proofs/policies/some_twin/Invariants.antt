use Rattle.std.proofs.Common.{◌≡◌, ◌&&◌, drop}
use Rattle.std.specs.List.{list_any}
use Rattle.rg_policy.specs.declared.policy.Policy.{Policy}
use Rattle.rg_validate.specs.Policies.{is_other}
use Rattle.rg_same_resources.specs.Twins.{is_twin}
use Rattle.rg_validate.proofs.policies.some_twin.Given as goal

-- the rest decides
abbrev pub invariant-loop-other : goal.invariant-loop-other
invariant-loop-other l = list_any (λ (q : Policy). is_other l.updated q && is_twin l.policy q) (drop l.other-index l.policies) ≡ list_any (λ (q : Policy). is_other l.updated q && is_twin l.policy q) l.policies
