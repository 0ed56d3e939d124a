use Rattle.std.proofs.Common.{◌≡◌, take}
use Rattle.rg_facts.specs.Sound.{row_ids}
use Rattle.rg_facts_check.proofs.tag_rows.row_ids.Given as goal

-- the ids so far
abbrev pub invariant-loop-row : goal.invariant-loop-row
invariant-loop-row l = l.ids.items ≡ row_ids (take l.row-index l.rows)
