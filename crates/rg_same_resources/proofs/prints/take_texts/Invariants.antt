use Rattle.std.proofs.Common.{◌≡◌, drop}
use Rattle.rg_same_resources.specs.Prints.{with_texts}
use Rattle.rg_same_resources.proofs.prints.take_texts.Given as goal

-- the rest decides
abbrev pub invariant-loop-text : goal.invariant-loop-text
invariant-loop-text l = with_texts l.seed l.marks (drop l.text-index l.texts) ≡ with_texts l.seed l.fn.marks l.texts
