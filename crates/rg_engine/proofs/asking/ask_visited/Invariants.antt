use Rattle.std.proofs.Common.{◌≡◌, ◌≤◌, ◌+◌, length}
use Rattle.std.specs.Prelude.{option_map}
use Rattle.rg_facts.specs.Best.{after}
use Rattle.rg_facts.specs.Engines.{asked_for}
use Rattle.rg_facts.specs.declared.best.Pass.TheVariants.{All}
use Rattle.rg_engine.proofs.asking.ask_visited.Given as goal

-- the rest, after what was found, gives what the whole does, and may count what the whole may
abbrev pub invariant-visits : goal.invariant-visits
invariant-visits g l = record {
  same : after All l.setting (asked_for (option_map (λ t. t.now) l.tag) l.visits) l.best ≡ after All l.setting (asked_for (option_map (λ t. t.now) l.tag) l.fn.visits) l.fn.best;
  tries : l.steps.tries + length l.visits ≤ l.fn.steps.tries + length l.fn.visits;
  compiles : l.steps.compiles ≡ l.fn.steps.compiles;
  edits : l.steps.edits ≡ l.fn.steps.edits;
}

abbrev pub decreases-visits : goal.decreases-visits
decreases-visits g l = length l.visits
