use Rattle.std.proofs.Common.{◌≡◌, take}
use Rattle.rg_base.specs.Listed.{listed}
use Rattle.rg_grant.specs.Taking.{parted}
use Rattle.rg_grant.proofs.taking.parted.Given as goal

abbrev pub invariant-loop-text : goal.invariant-loop-text
invariant-loop-text l = l.kept ≡ listed (parted l.named l.names.items (take l.text-index l.texts.items))
