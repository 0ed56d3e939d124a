use Rattle.std.proofs.Common.{◌≡◌, drop, true}
use Rattle.std.specs.List.{list_all, list_any}
use Rattle.rg_validate.specs.Apart.{meets_zone}
use Rattle.rg_validate.specs.Zones.{zone_values_suit}
use Rattle.rg_validate.proofs.zone_apart.meets_some.Given as goal

-- the rest decides, and fits
abbrev pub invariant-loop-other : goal.invariant-loop-other
invariant-loop-other l = record {
  rest : list_any (meets_zone l.defs l.zone) (drop l.other-index l.others) ≡ list_any (meets_zone l.defs l.zone) l.others;
  fit : list_all zone_values_suit (drop l.other-index l.others) ≡ true;
}
