use Rattle.std.proofs.Common.{◌≡◌, ◌≤◌, ◌-◌, Some}
use Rattle.rg_drill.specs.Workload.{policies_of}
use Rattle.rg_run_drill.specs.Drill.{prepared}
use Rattle.rg_run_drill.proofs.preparing.prepare.Given as goal

abbrev pub invariant-policies : goal.invariant-policies
invariant-policies g l = record {
  prepares : prepared (Some l.fn.running) l.policies l.number l.fn.generator ≡ Some l.running;
  drawn : l.generator ≡ (policies_of l.number l.fn.generator).next;
  within : l.number ≤ l.policies;
  tries : l.steps.tries ≡ l.fn.steps.tries;
}

abbrev pub decreases-policies : goal.decreases-policies
decreases-policies g l = l.policies - l.number
