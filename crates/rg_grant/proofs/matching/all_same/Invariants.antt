use Rattle.std.proofs.Common.{◌≡◌, drop}
use Rattle.std.specs.List.{list_all}
use Rattle.rg_policy.specs.declared.policy.ResourceMap.{ResourceMap}
use Rattle.rg_same_resources.specs.Twins.{same_levels}
use Rattle.rg_grant.proofs.matching.all_same.Given as goal

-- the rest decides
abbrev pub invariant-loop-map : goal.invariant-loop-map
invariant-loop-map l =
    let same = λ (m : ResourceMap). same_levels l.row.resources.items m.levels.items in
    list_all same (drop l.map-index l.maps) ≡ list_all same l.maps
