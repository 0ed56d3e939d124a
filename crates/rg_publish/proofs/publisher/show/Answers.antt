use Rattle.std.proofs.Common.{◌≡◌, ℕ, fold, sym, ap, ◌∙◌, subst}
use Rattle.logbook.specs.declared.tokens.Seen.{Seen}
use Rattle.rg_publish.specs.declared.shown.Shown.{Shown}
use Rattle.rg_publish.specs.declared.history.Publication.{Publication}
use Rattle.rg_publish.specs.declared.history.Numbering.{Numbering}
use Rattle.rg_publish.specs.Knowing.{Begins}
use Rattle.rg_publish.proofs.Readings.{reads}
use Rattle.rg_publish.proofs.publisher.show.Goals as goal

pub publish_as-next-requires : goal.publish_as-next-requires
publish_as-next-requires g c next is =
    let S : Type 0 = Shown in
    let T : Type 0 = Seen Publication ℕ Numbering in
    let i = c.loop.invariant in
    let now : S = c.loop.writer.desk.shown.value in
    let same : next.known ≡ c.args.shown.known = is ∙ ap (fold (λ (_ : T) (s : S). s.known) now.known) i.1 in
    reads (λ (s : S). s.known) _ _ now next (subst (λ (s : S). Begins s.known next.known) (sym i.0) (subst (λ (t : T). Begins c.args.writer.desk.shown.value.known t) (sym same) c.requires.1))
