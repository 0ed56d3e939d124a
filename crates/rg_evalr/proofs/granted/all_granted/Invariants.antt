use Rattle.std.proofs.Common.{◌≡◌, take}
use Rattle.rg_base.specs.Listed.{listed}
use Rattle.rg_evalr.specs.Granted.{all_granted}
use Rattle.rg_evalr.proofs.granted.all_granted.Given as goal

abbrev pub invariant-loop-entry : goal.invariant-loop-entry
invariant-loop-entry l = l.list ≡ listed (all_granted l.def (take l.entry-index l.entries))
