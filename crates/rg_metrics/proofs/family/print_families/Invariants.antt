use Rattle.std.proofs.Common.{◌≡◌, string_bytes, take}
use Rattle.rg_metrics.specs.Exposition.{families_text}
use Rattle.rg_metrics.proofs.family.print_families.Given as goal

abbrev pub invariant-loop-family : goal.invariant-loop-family
invariant-loop-family l = string_bytes l.text ≡ families_text (take l.family-index l.families)
