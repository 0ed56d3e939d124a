use Rattle.std.proofs.Common.{◌≡◌, drop, take, true}
use Rattle.std.specs.List.{list_all}
use Rattle.rg_base.specs.Texts.{is_name}
use Rattle.rg_pattern.specs.Reading.{value_patterns}
use Rattle.rg_pattern.proofs.values.value_patterns.Given as goal

abbrev pub invariant-loop-value : goal.invariant-loop-value
invariant-loop-value l = record {
  so_far : l.patterns.items ≡ value_patterns l.wild l.recursive (take l.value-index l.values);
  fit : list_all is_name (drop l.value-index l.values) ≡ true;
}
