use Rattle.std.proofs.Common.{◌≡◌, Some, map, take, false}
use Rattle.std.specs.List.{list_any}
use Rattle.rg_roles.specs.Faults.{is_absent}
use Rattle.rg_roles.specs.Places.{place_in}
use Rattle.rg_roles.proofs.chart.places_of.Given as goal

abbrev pub invariant-loop-role : goal.invariant-loop-role
invariant-loop-role l =
    (list_any (is_absent l.index) (take l.role-index l.roles) ≡ false) × (map (place_in l.index) (take l.role-index l.roles) ≡ map Some l.places.items)
