use Rattle.std.proofs.Common.{◌≡◌, filter, take}
use Rattle.rg_base.specs.Listed.{listed}
use Rattle.rg_facts.specs.Candidates.{row_lies}
use Rattle.rg_explain.proofs.parts.rows_lying.Given as goal

abbrev pub invariant-loop-row : goal.invariant-loop-row
invariant-loop-row l = l.list ≡ listed (filter (row_lies l.facts l.request) (take l.row-index l.facts.tag_rows.items))
