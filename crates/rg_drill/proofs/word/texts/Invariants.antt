use Rattle.std.proofs.Common.{◌≡◌, map}
use Rattle.std.specs.Prelude.{take}
use Rattle.rg_base.specs.Listed.{listed}
use Rattle.rg_drill.specs.Words.{text_of}
use Rattle.rg_drill.proofs.word.texts.Given as goal

abbrev pub invariant-loop-word : goal.invariant-loop-word
invariant-loop-word l = l.list ≡ listed (map text_of (take l.word-index l.words))
