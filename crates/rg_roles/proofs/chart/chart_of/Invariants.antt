use Rattle.std.proofs.Common.{◌≡◌, None, Some, map, take}
use Rattle.rg_roles.specs.declared.row.RoleRow.{RoleRow}
use Rattle.rg_base.specs.Names.{first_place}
use Rattle.rg_roles.specs.Faults.{names_absent}
use Rattle.rg_roles.specs.Members.{names_of}
use Rattle.rg_roles.specs.Places.{place_in}
use Rattle.rg_roles.proofs.chart.chart_of.Given as goal

abbrev pub invariant-loop-place : goal.invariant-loop-place
invariant-loop-place l =
    (map (λ (row : RoleRow). map (place_in (names_of l.rows)) row.roles.items) (take l.place l.rows) ≡ map (map Some) l.chart)
    × (first_place (names_absent l.rows) l.place ≡ None)
