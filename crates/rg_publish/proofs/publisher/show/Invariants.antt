use Rattle.std.proofs.Common.{◌≡◌, [], ◌∷◌, drop}
use Rattle.rg_publish.proofs.publisher.show.Given as goal

abbrev pub invariant-loop : goal.invariant-loop
invariant-loop g l = (l.writer.desk.shown.value ≡ l.fn.writer.desk.shown.value) × (drop l.writer.behind l.writer.log.items ≡ l.fn.shown ∷ [])
