use Rattle.std.proofs.Common.{◌≡◌, map, take, if◌then◌else◌}
use Rattle.rg_roles.specs.declared.row.RoleRow.{RoleRow}
use Rattle.rg_cmd.specs.Lookups.{is_role}
use Rattle.rg_validate.proofs.roles.kept_rows.Given as goal

-- the rows so far
abbrev pub invariant-loop-row : goal.invariant-loop-row
invariant-loop-row l = l.kept.items ≡ map (λ (old : RoleRow). if is_role l.new.name old then l.new else old) (take l.row-index l.rows)
