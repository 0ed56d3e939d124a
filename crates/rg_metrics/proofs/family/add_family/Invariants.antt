use Rattle.std.proofs.Common.{◌≡◌, ◌++◌, flat_map, string_bytes, take}
use Rattle.rg_metrics.specs.Exposition.{sample_text, type_text}
use Rattle.rg_metrics.proofs.family.add_family.Given as goal

abbrev pub invariant-loop-sample : goal.invariant-loop-sample
invariant-loop-sample l = string_bytes l.text ≡ string_bytes l.fn.text ++ (type_text l.family ++ flat_map (sample_text l.family) (take l.sample-index l.sample-items))
