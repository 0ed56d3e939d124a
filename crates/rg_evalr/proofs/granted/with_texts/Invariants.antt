use Rattle.std.proofs.Common.{◌≡◌, ◌++◌, take}
use Rattle.rg_base.specs.Listed.{listed}
use Rattle.rg_evalr.proofs.granted.with_texts.Given as goal

abbrev pub invariant-loop-text : goal.invariant-loop-text
invariant-loop-text l = l.list ≡ listed (l.fn.list.items ++ take l.text-index l.texts)
