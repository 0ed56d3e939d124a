use Rattle.std.proofs.Common.{◌≡◌, drop}
use Rattle.std.specs.List.{list_all}
use Rattle.rg_validate.specs.Valid.{tag_row_valid}
use Rattle.rg_validate.proofs.valid.tag_rows_valid.Given as goal

-- the rest decides
abbrev pub invariant-loop-row : goal.invariant-loop-row
invariant-loop-row l = list_all (tag_row_valid l.state) (drop l.row-index l.state.tag_rows.items) ≡ list_all (tag_row_valid l.state) l.state.tag_rows.items
