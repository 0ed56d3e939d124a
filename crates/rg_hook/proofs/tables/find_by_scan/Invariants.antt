use Rattle.std.proofs.Common.{◌≡◌, drop}
use Rattle.std.specs.List.{find}
use Rattle.rg_base.specs.Texts.{is_among}
use Rattle.rg_hook.proofs.tables.find_by_scan.Given as goal

-- what is found is found in the rest
abbrev pub invariant-loop-row : goal.invariant-loop-row
invariant-loop-row l = find (λ r. is_among r.name l.groups) (drop l.row-index l.rows) ≡ find (λ r. is_among r.name l.groups) l.rows
