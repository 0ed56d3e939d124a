use Rattle.std.proofs.Common.{◌≡◌, [], drop}
use Rattle.rg_publish.proofs.publisher.append.Given as goal

abbrev pub invariant-loop : goal.invariant-loop
invariant-loop g l = (l.writer.desk ≡ l.initial.writer.desk) × (drop l.writer.behind l.writer.log.items ≡ []) × (l.shown ≡ l.initial.shown)
