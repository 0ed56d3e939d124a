use Rattle.std.proofs.Common.{◌≡◌, ◌++◌, drop, take, true}
use Rattle.std.specs.List.{flat_map}
use Rattle.rg_index.specs.Kept.{named_keys}
use Rattle.rg_resmatch.specs.Rules.{are_written}
use Rattle.rg_index.proofs.keys.with_resources.Given as goal

abbrev pub invariant-loop-resource : goal.invariant-loop-resource
invariant-loop-resource l = record {
  so_far : l.keys.items ≡ l.fn.keys.items ++ flat_map (named_keys l.level) (take l.resource-index l.resources);
  written : are_written (drop l.resource-index l.resources) ≡ true;
}
