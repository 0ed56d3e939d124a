use Rattle.std.proofs.Common.{◌≡◌, ◌++◌, map, take}
use Rattle.rg_policy.specs.declared.policy.Policy.{Policy}
use Rattle.rg_facts_check.proofs.ids.append_ids.Given as goal

-- the ids so far
abbrev pub invariant-loop-policy : goal.invariant-loop-policy
invariant-loop-policy l = l.ids.items ≡ l.initial.ids.items ++ map (λ (p : Policy). p.id.0) (take l.policy-index l.policies)
