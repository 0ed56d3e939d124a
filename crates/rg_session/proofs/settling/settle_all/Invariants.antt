use Rattle.std.proofs.Common.{◌≡◌, ◌≤◌, ◌++◌, All, List, length}
use Rattle.rg_publish.specs.Passes.{Seeing}
use Rattle.rg_session.specs.Closing.{IsKnown}
use Rattle.rg_session.proofs.settling.settle_all.Given as goal

abbrev pub invariant-loop-pass : goal.invariant-loop-pass
invariant-loop-pass g l = All (λ (p : Seeing). (length p.list ≤ length l.fn.publisher.list) × (p.book ≡ l.fn.publisher.book)) l.passes.items
    × ((done : List Seeing) × (l.fn.passes.items ≡ l.passes.items ++ done) × All (IsKnown l.fn.publisher) done)

abbrev pub decreases-loop-pass : goal.decreases-loop-pass
decreases-loop-pass g l = length l.passes.items
