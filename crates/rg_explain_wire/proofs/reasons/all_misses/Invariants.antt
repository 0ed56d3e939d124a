use Rattle.std.proofs.Common.{◌≡◌, string_bytes, take}
use Rattle.std.specs.Prelude.{flat_map}
use Rattle.rg_explain_wire.specs.Words.{miss_words}
use Rattle.rg_explain_wire.proofs.reasons.all_misses.Given as goal

abbrev pub invariant-loop-miss : goal.invariant-loop-miss
invariant-loop-miss l = string_bytes l.text ≡ flat_map miss_words (take l.miss-index l.misses)
