use Rattle.std.proofs.Common.{◌≡◌, ◌++◌, drop, take, true}
use Rattle.rg_resmatch.specs.Rules.{all_values_fit}
use Rattle.rg_delegate.specs.Compiled.{map_forms}
use Rattle.rg_delegate.proofs.reading.with_maps.Given as goal

abbrev pub invariant-loop-map : goal.invariant-loop-map
invariant-loop-map l = record {
  so_far : l.read.items ≡ l.fn.read.items ++ map_forms l.def (take l.map-index l.maps);
  written : all_values_fit l.def (drop l.map-index l.maps) ≡ true;
}
