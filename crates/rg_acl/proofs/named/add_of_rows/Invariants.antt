use Rattle.std.proofs.Common.{◌≡◌, ◌++◌, take}
use Rattle.rg_acl.specs.Named.{named_by_rows}
use Rattle.rg_acl.proofs.named.add_of_rows.Given as goal

abbrev pub invariant-loop-row : goal.invariant-loop-row
invariant-loop-row l = l.found.items ≡ l.initial.found.items ++ named_by_rows l.listing (take l.row-index l.rows)
