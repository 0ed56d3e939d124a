use Rattle.std.proofs.Common.{◌≡◌, ◌++◌, drop, take, map, true}
use Rattle.std.specs.List.{list_all}
use Rattle.rg_base.specs.Texts.{is_name}
use Rattle.rg_index.specs.Filing.{value_key}
use Rattle.rg_index.proofs.keys.with_values.Given as goal

abbrev pub invariant-loop-value : goal.invariant-loop-value
invariant-loop-value l = record {
  so_far : l.keys.items ≡ l.fn.keys.items ++ map (value_key l.level) (take l.value-index l.values);
  written : list_all is_name (drop l.value-index l.values) ≡ true;
}
