use Rattle.std.proofs.Common.{◌≡◌, take}
use Rattle.std.specs.Str.{chars}
use Rattle.rg_zones.specs.Places.{zone_forms}
use Rattle.rg_zones.proofs.filed.zone_forms.Given as goal

-- the forms so far
abbrev pub invariant-loop-place : goal.invariant-loop-place
invariant-loop-place l = l.forms.items ≡ zone_forms (chars l.service) l.def 0 (take l.place l.zones)
