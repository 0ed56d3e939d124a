use Rattle.std.proofs.Common.{◌≡◌, ◌+◌}
use Rattle.rg_serve.proofs.crew.accept_all.Given as goal

abbrev pub invariant-loop-accepted : goal.invariant-loop-accepted
invariant-loop-accepted g l =
    (g.N.Listener.given l.net ≡ g.N.Listener.given l.initial.net + l.accepted) × (g.N.Listener.faults l.net ≡ g.N.Listener.faults l.initial.net) × (l.given.book.total ≡ l.accepted) × (l.given.most ≡ l.initial.given.most)
