use Rattle.std.proofs.Common.{◌≡◌, ℕ, fold, refl, sym, ap, ◌∙◌, subst}
use Rattle.logbook.specs.declared.tokens.Seen.{Seen}
use Rattle.rg_publish.specs.declared.shown.Shown.{Shown}
use Rattle.rg_publish.specs.declared.history.Publication.{Publication}
use Rattle.rg_publish.specs.declared.history.Numbering.{Numbering}
use Rattle.rg_publish.specs.Knowing.{Begins}
use Rattle.rg_publish.proofs.Lists.{prefix_self}
use Rattle.rg_publish.proofs.Readings.{reads}
use Rattle.rg_publish.proofs.publisher.settle.Goals as goal

pub publish_as-next-requires : goal.publish_as-next-requires
publish_as-next-requires g c next is =
    let T : Type 0 = Seen Publication ℕ Numbering in
    let i = c.loop.invariant in
    let now : Shown = c.loop.writer.desk.shown.value in
    let same : next.known ≡ now.known = is ∙ ap (fold (λ (_ : T) (s : Shown). s.known) now.known) i.1 in
    reads (λ (s : Shown). s.known) _ _ now next (subst (λ (t : T). Begins now.known t) (sym same) (refl, prefix_self now.known.log))
