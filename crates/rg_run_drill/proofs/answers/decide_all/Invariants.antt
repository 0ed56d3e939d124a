use Rattle.std.proofs.Common.{◌≡◌, ◌≤◌, ◌+◌, ◌-◌, Some}
use Rattle.std.specs.List.{sum_by}
use Rattle.rg_publish.specs.Bounds.{bound_on}
use Rattle.rg_drill.specs.Workload.{requests_of}
use Rattle.rg_publish.specs.declared.history.Publication.{Publication}
use Rattle.rg_run_replay.specs.Running.{newest}
use Rattle.rg_run_drill.specs.Drill.{answered, answers_to}
use Rattle.rg_run_drill.proofs.answers.decide_all.Given as goal

abbrev pub invariant-requests : goal.invariant-requests
invariant-requests g l = record {
  same : l.running ≡ l.fn.running;
  drawn : l.generator ≡ (requests_of l.policies l.number l.fn.generator).next;
  within : l.number ≤ l.requests;
  counted : answered l.answers ≡ l.number;
  answers : (p : Publication) → newest l.fn.running ≡ Some p → l.answers ≡ answers_to p.facts (requests_of l.policies l.number l.fn.generator).value;
  tries : (p : Publication) → newest l.fn.running ≡ Some p
      → l.steps.tries ≤ l.fn.steps.tries + sum_by (bound_on p.facts) (requests_of l.policies l.number l.fn.generator).value;
}

abbrev pub decreases-requests : goal.decreases-requests
decreases-requests g l = l.requests - l.number
