use Rattle.std.proofs.Common.{◌≡◌, take}
use Rattle.std.specs.List.{filter}
use Rattle.std.specs.Str.{chars}
use Rattle.rg_base.specs.Listed.{listed}
use Rattle.rg_cmd.specs.Lookups.{is_row_of}
use Rattle.rg_admin.proofs.served.tag_rows_of.Given as goal

abbrev pub invariant-loop-row : goal.invariant-loop-row
invariant-loop-row l = l.list ≡ listed (filter (is_row_of (chars l.service)) (take l.row-index l.rows))
