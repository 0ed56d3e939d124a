use Rattle.std.proofs.Common.{◌≡◌, map, filter, take}
use Rattle.std.specs.Str.{bytes_eq, chars}
use Rattle.rg_cmd.specs.declared.state.ServiceRow.{ServiceRow}
use Rattle.rg_validate.proofs.definitions.names_with.Given as goal

-- the names so far
abbrev pub invariant-loop-row : goal.invariant-loop-row
invariant-loop-row l = l.names.items ≡ map (λ (row : ServiceRow). row.name) (filter (λ (row : ServiceRow). bytes_eq row.def (chars l.def)) (take l.row-index l.state.services.items))
