use Rattle.std.proofs.Common.{◌≡◌, drop, take, true}
use Rattle.std.specs.List.{flat_map, list_all}
use Rattle.rg_index.specs.Kept.{map_keys}
use Rattle.rg_policy.specs.declared.policy.ResourceMap.{ResourceMap}
use Rattle.rg_resmatch.specs.Rules.{are_written}
use Rattle.rg_index.proofs.keys.level_keys.Given as goal

abbrev pub invariant-loop-map : goal.invariant-loop-map
invariant-loop-map l = record {
  so_far : l.keys.items ≡ flat_map (map_keys l.level l.form.reach) (take l.map-index l.form.maps.items);
  written : list_all (λ (m : ResourceMap). are_written m.levels.items) (drop l.map-index l.form.maps.items) ≡ true;
}
