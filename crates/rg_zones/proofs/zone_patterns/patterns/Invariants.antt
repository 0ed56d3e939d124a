use Rattle.std.proofs.Common.{◌≡◌, ◌++◌, drop, true}
use Rattle.std.specs.List.{flat_map, list_all}
use Rattle.rg_pattern.specs.Atoms.{are_scalars}
use Rattle.rg_pattern.specs.Reading.{atoms_of, value_fits}
use Rattle.rg_zone_rules.specs.Overlap.{with_twin}
use Rattle.rg_zones.proofs.zone_patterns.patterns.Given as goal

abbrev pub invariant-loop-text : goal.invariant-loop-text
invariant-loop-text l = record {
  so_far : l.read.items ++ flat_map (λ t. with_twin l.recursive (atoms_of l.wild t)) (drop l.text-index l.texts) ≡ flat_map (λ t. with_twin l.recursive (atoms_of l.wild t)) l.texts;
  scalars : list_all are_scalars l.read.items ≡ true;
  fit : list_all value_fits (drop l.text-index l.texts) ≡ true;
}
