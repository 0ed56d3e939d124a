use Rattle.std.proofs.Common.{◌≡◌, drop}
use Rattle.std.specs.List.{list_all}
use Rattle.rg_delegate.specs.Covering.{some_covers}
use Rattle.rg_delegate.proofs.filing.filed_cover.Given as goal

abbrev pub invariant-loop-other : goal.invariant-loop-other
invariant-loop-other l = list_all (some_covers l.fold l.patterns) (drop l.other-index l.others) ≡ list_all (some_covers l.fold l.patterns) l.others
