use Rattle.std.proofs.Common.{◌≡◌, true, take, drop}
use Rattle.rg_cond.specs.PolicyRules.{all_compile}
use Rattle.rg_evalr.specs.Compiled.{rules_of}
use Rattle.rg_evalr.proofs.compile.compile_conditions.Given as goal

-- the rules so far, and the conditions to come compile
abbrev pub invariant-loop-condition : goal.invariant-loop-condition
invariant-loop-condition l = record {
  made : l.compiled ≡ rules_of l.def (take l.condition-index l.conditions);
  left : all_compile l.def (drop l.condition-index l.conditions) ≡ true;
}
