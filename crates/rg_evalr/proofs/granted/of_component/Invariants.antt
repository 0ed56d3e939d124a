use Rattle.std.proofs.Common.{◌≡◌, take}
use Rattle.std.specs.Str.{chars}
use Rattle.rg_base.specs.Listed.{listed}
use Rattle.rg_evalr.specs.Granted.{of_component}
use Rattle.rg_evalr.proofs.granted.of_component.Given as goal

abbrev pub invariant-loop-text : goal.invariant-loop-text
invariant-loop-text l = l.list ≡ listed (of_component (chars l.component) (take l.text-index l.texts))
