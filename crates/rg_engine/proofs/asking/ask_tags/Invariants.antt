use Rattle.std.proofs.Common.{◌≡◌, ◌≤◌, ◌+◌, length}
use Rattle.std.specs.List.{sum_by}
use Rattle.rg_facts.specs.Best.{Best}
use Rattle.rg_engine.specs.Asked.{Finds, all_tagged, tag_tries}
use Rattle.rg_engine.proofs.asking.ask_tags.Given as goal

-- what is found for the rest, after what was found, is found for all, and may count what all may
abbrev pub invariant-tags : goal.invariant-tags
invariant-tags g l = record {
  found : (b : Best) → Finds l.setting (all_tagged l.policies l.tags) l.best b → Finds l.setting (all_tagged l.policies l.fn.tags) l.fn.best b;
  tries : l.steps.tries + sum_by (tag_tries l.policies) l.tags ≤ l.fn.steps.tries + sum_by (tag_tries l.policies) l.fn.tags;
  compiles : l.steps.compiles ≡ l.fn.steps.compiles;
  edits : l.steps.edits ≡ l.fn.steps.edits;
}

abbrev pub decreases-tags : goal.decreases-tags
decreases-tags g l = length l.tags
