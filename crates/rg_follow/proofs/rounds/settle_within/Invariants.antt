use Rattle.std.proofs.Common.{◌≡◌, ◌+◌, List, length}
use Rattle.rg_cmd.specs.declared.download.Download.{Download}
use Rattle.rg_follow.specs.Asking.{AreAsked}
use Rattle.rg_follow.specs.Following.{Moves}
use Rattle.rg_follow.proofs.rounds.settle_within.Given as goal

abbrev pub invariant-loop-left : goal.invariant-loop-left
invariant-loop-left g l =
    (ds : List Download)
    × AreAsked l.fn.had ds l.fn.remote l.remote
    × Moves l.fn.had ds l.facts
    × (length ds + l.left ≡ l.fn.most)

abbrev pub decreases-loop-left : goal.decreases-loop-left
decreases-loop-left g l = l.left
