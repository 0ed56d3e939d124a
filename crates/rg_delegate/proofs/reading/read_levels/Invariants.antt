use Rattle.std.proofs.Common.{◌≡◌, drop, take, true}
use Rattle.rg_resmatch.specs.Rules.{are_written}
use Rattle.rg_delegate.specs.Compiled.{map_form}
use Rattle.rg_delegate.proofs.reading.read_levels.Given as goal

abbrev pub invariant-loop-resource : goal.invariant-loop-resource
invariant-loop-resource l = record {
  so_far : l.levels.items ≡ map_form l.def (take l.resource-index l.resources);
  written : are_written (drop l.resource-index l.resources) ≡ true;
}
