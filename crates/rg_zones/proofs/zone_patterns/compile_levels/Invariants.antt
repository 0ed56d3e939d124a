use Rattle.std.proofs.Common.{◌≡◌, ◌++◌, drop, map, true}
use Rattle.std.specs.List.{list_all}
use Rattle.rg_zone_rules.specs.Overlap.{form_scalars, level_patterns}
use Rattle.rg_zone_rules.specs.Rules.{level_values_fit}
use Rattle.rg_zones.proofs.zone_patterns.compile_levels.Given as goal

abbrev pub invariant-loop-one : goal.invariant-loop-one
invariant-loop-one l = record {
  so_far : l.levels.items ++ map (level_patterns l.def) (drop l.one-index l.written) ≡ map (level_patterns l.def) l.written;
  scalars : form_scalars l.levels.items ≡ true;
  fit : list_all level_values_fit (drop l.one-index l.written) ≡ true;
}
