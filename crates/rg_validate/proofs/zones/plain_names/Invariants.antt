use Rattle.std.proofs.Common.{◌≡◌, map, filter, not, take}
use Rattle.std.specs.Str.{bytes_eq}
use Rattle.rg_defs.specs.Rules.{tag_name}
use Rattle.rg_cmd.specs.declared.state.ServiceRow.{ServiceRow}
use Rattle.rg_validate.proofs.zones.plain_names.Given as goal

-- the names so far
abbrev pub invariant-loop-row : goal.invariant-loop-row
invariant-loop-row l = l.names.items ≡ map (λ (row : ServiceRow). row.name) (filter (λ (row : ServiceRow). not (bytes_eq row.def tag_name)) (take l.row-index l.state.services.items))
