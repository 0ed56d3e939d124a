use Rattle.std.proofs.Common.{◌≡◌, true, map, take, drop}
use Rattle.std.specs.List.{list_all}
use Rattle.rg_base.specs.Listed.{listed}
use Rattle.rg_resmatch.specs.Rules.{tagged_fit}
use Rattle.rg_tags.specs.declared.row.TagRow.{TagRow}
use Rattle.rg_facts.specs.Engines.{row_matching}
use Rattle.rg_plain_engine.proofs.building.row_matchers.Given as goal

-- the matchers so far, and the rows to come fit
abbrev pub invariant-loop-row : goal.invariant-loop-row
invariant-loop-row l = record {
  made : l.list ≡ listed (map (row_matching l.def) (take l.row-index l.rows));
  left : list_all (λ (row : TagRow). tagged_fit l.def row.resources.items) (drop l.row-index l.rows) ≡ true;
}
