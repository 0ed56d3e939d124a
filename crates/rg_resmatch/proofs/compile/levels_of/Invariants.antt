use Rattle.std.proofs.Common.{◌≡◌, drop, take, map, true}
use Rattle.rg_resmatch.specs.Compiled.{level_form}
use Rattle.rg_resmatch.specs.Rules.{are_written}
use Rattle.rg_resmatch.proofs.compile.levels_of.Given as goal

abbrev pub invariant-loop-resource : goal.invariant-loop-resource
invariant-loop-resource l = record {
  so_far : l.levels.items ≡ map (level_form l.def) (take l.resource-index l.resources);
  written : are_written (drop l.resource-index l.resources) ≡ true;
}
