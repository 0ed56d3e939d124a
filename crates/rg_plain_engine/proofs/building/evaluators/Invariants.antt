use Rattle.std.proofs.Common.{◌≡◌, true, take, drop, is_none}
use Rattle.std.specs.List.{list_all}
use Rattle.rg_base.specs.Listed.{listed}
use Rattle.rg_policy.specs.declared.policy.Policy.{Policy}
use Rattle.rg_evalr.specs.Compiling.{policy_fault}
use Rattle.rg_plain_engine.specs.Compiled.{sources_of}
use Rattle.rg_plain_engine.proofs.building.evaluators.Given as goal

-- the evaluators so far, and the policies to come pass their rules
abbrev pub invariant-loop-policy : goal.invariant-loop-policy
invariant-loop-policy l = record {
  made : l.list ≡ listed (sources_of l.frame l.side (take l.policy-index l.policies));
  left : list_all (λ (p : Policy). is_none (policy_fault l.frame l.side p)) (drop l.policy-index l.policies) ≡ true;
}
