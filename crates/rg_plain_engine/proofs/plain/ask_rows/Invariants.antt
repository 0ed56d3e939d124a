use Rattle.std.proofs.Common.{◌≡◌, Some, length, map}
use Rattle.std.specs.Prelude.{flat_map}
use Rattle.rg_facts.specs.Best.{after, none_yet}
use Rattle.rg_facts.specs.Candidates.{tags_in}
use Rattle.rg_facts.specs.Engines.{asked_for, row_matching}
use Rattle.rg_facts.specs.declared.best.Pass.TheVariants.{All}
use Rattle.rg_plain_engine.proofs.plain.ask_rows.Given as goal

-- the rest, after what was found, gives what the whole does
abbrev pub invariant-rows : goal.invariant-rows
invariant-rows l = record {
  same : after All l.setting (flat_map (λ tag. asked_for (Some tag) l.evaluators) (tags_in l.facts l.setting.request l.rows)) l.best
      ≡ after All l.setting (flat_map (λ tag. asked_for (Some tag) l.evaluators) (tags_in l.facts l.setting.request l.facts.tag_rows.items)) none_yet;
  matchers : l.matchers ≡ map (row_matching l.facts.def) l.rows;
}

abbrev pub decreases-rows : goal.decreases-rows
decreases-rows l = length l.rows
