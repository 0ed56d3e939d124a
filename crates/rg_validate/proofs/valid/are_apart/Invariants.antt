use Rattle.std.proofs.Common.{◌≡◌, drop}
use Rattle.std.specs.List.{list_all}
use Rattle.rg_cmd.specs.declared.state.ServiceRow.{ServiceRow}
use Rattle.rg_validate.specs.Zones.{are_apart_for}
use Rattle.rg_validate.proofs.valid.are_apart.Given as goal

-- the rest decides
abbrev pub invariant-loop-service : goal.invariant-loop-service
invariant-loop-service l = list_all (λ (row : ServiceRow). are_apart_for l.state l.state.zones.items row.name) (drop l.service-index l.state.services.items) ≡ list_all (λ (row : ServiceRow). are_apart_for l.state l.state.zones.items row.name) l.state.services.items
