use Rattle.std.proofs.Common.{◌≡◌, map, take}
use Rattle.rg_base.specs.Listed.{listed}
use Rattle.rg_grant.specs.Forms.{entry_of}
use Rattle.rg_grant.proofs.forms.entries_of.Given as goal

abbrev pub invariant-loop-access : goal.invariant-loop-access
invariant-loop-access l = l.entries ≡ listed (map entry_of (take l.access-index l.accesses))
