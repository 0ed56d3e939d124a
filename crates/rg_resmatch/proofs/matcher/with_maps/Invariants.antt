use Rattle.std.proofs.Common.{◌≡◌, ◌++◌, drop, take, true}
use Rattle.rg_resmatch.specs.Compiled.{map_forms}
use Rattle.rg_resmatch.specs.Rules.{all_values_fit}
use Rattle.rg_resmatch.proofs.matcher.with_maps.Given as goal

abbrev pub invariant-loop-map : goal.invariant-loop-map
invariant-loop-map l = record {
  so_far : l.compiled.items ≡ l.fn.compiled.items ++ map_forms l.def l.reach (take l.map-index l.maps);
  written : all_values_fit l.def (drop l.map-index l.maps) ≡ true;
}
