use Rattle.std.proofs.Common.{◌≡◌, drop, replicate}
use Rattle.left_right.specs.Sides.{view as known_by}
use Rattle.rg_publish.specs.Publications.{published}
use Rattle.rg_publish.specs.Passes.{new_pass}
use Rattle.rg_publish.proofs.publisher.passes_of.Given as goal

abbrev pub invariant-loop-made : goal.invariant-loop-made
invariant-loop-made l = (l.writer.desk.shown ≡ l.initial.writer.desk.shown) × (drop l.writer.behind l.writer.log.items ≡ drop l.initial.writer.behind l.initial.writer.log.items) × (known_by l.writer.desk.place ≡ known_by l.initial.writer.desk.place)
    × (l.all.items ≡ replicate l.made (new_pass (published l.kept.known)))
