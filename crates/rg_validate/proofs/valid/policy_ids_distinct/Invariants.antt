use Rattle.std.proofs.Common.{◌≡◌, length}
use Rattle.std.specs.Ordering.{int_eq}
use Rattle.rg_base.specs.Texts.{all_distinct}
use Rattle.rg_policy.specs.declared.policy.Policy.{Policy}
use Rattle.rg_validate.proofs.valid.policy_ids_distinct.Given as goal

-- the rest decides
abbrev pub invariant-loop-policy : goal.invariant-loop-policy
invariant-loop-policy l = all_distinct (λ (p q : Policy). int_eq p.id.0 q.id.0) l.rest ≡ all_distinct (λ (p q : Policy). int_eq p.id.0 q.id.0) l.policies

abbrev pub decreases-loop-policy : goal.decreases-loop-policy
decreases-loop-policy l = length l.rest
