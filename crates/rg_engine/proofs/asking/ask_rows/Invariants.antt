use Rattle.std.proofs.Common.{◌≡◌, ◌≤◌, ◌+◌, length}
use Rattle.std.specs.List.{sum_by}
use Rattle.rg_facts.specs.Best.{Best}
use Rattle.rg_engine.specs.Asked.{Finds, all_tagged, reaching_tags, tag_tries}
use Rattle.rg_engine.proofs.asking.ask_rows.Given as goal

-- what is found for the rest, after what was found, is found for all, and may count what all may
abbrev pub invariant-rows : goal.invariant-rows
invariant-rows g l =
    let elements = l.setting.request.resource.elements.items in
    record {
      found : (b : Best) → Finds l.setting (all_tagged l.policies (reaching_tags elements l.rows)) l.best b
          → Finds l.setting (all_tagged l.policies (reaching_tags elements l.fn.rows)) l.fn.best b;
      tries : l.steps.tries + (length l.rows + sum_by (tag_tries l.policies) (reaching_tags elements l.rows))
          ≤ l.fn.steps.tries + (length l.fn.rows + sum_by (tag_tries l.policies) (reaching_tags elements l.fn.rows));
      compiles : l.steps.compiles ≡ l.fn.steps.compiles;
      edits : l.steps.edits ≡ l.fn.steps.edits;
    }

abbrev pub decreases-rows : goal.decreases-rows
decreases-rows g l = length l.rows
