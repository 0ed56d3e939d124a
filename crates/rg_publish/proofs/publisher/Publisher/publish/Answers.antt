use Rattle.std.proofs.Common.{◌≡◌, ℕ, ◌+◌, List, [], ◌∷◌, ◌++◌, length, drop, Some, sym, ap, ◌∙◌, subst, arith, length-append}
use Rattle.std.specs.Prelude.{IfSome}
use Rattle.left_right.specs.Sides.{view as known_by}
use Rattle.logbook.specs.declared.tokens.Seen.{Seen}
use Rattle.rg_publish.specs.declared.history.Publication.{Publication}
use Rattle.rg_publish.specs.declared.history.Numbering.{Numbering}
use Rattle.rg_publish.specs.declared.shown.Shown.{Shown}
use Rattle.rg_publish.specs.Publications.{Published, publication}
use Rattle.rg_publish.specs.Knowing.{Knows}
use Rattle.rg_publish.proofs.publisher.Publisher.publish.Goals as goal

abbrev T : Type 0
T = Seen Publication ℕ Numbering

pub show-writer-requires : goal.show-writer-requires
show-writer-requires g c =
    let e = c.in-Some-drafted.ensures in
    let kept : T = c.self.inside.kept.known in
    let p : Publication = publication (c.self.inside.kept.serial + 1) c.args.seq c.args.engine in
    let at = subst (λ o. IfSome o (λ w. (w.desk.shown.value.known ≡ kept) × (drop w.behind w.log.items ≡ []) × Knows (known_by w.desk.place) kept)) (sym c.in-Some.ensures.value) c.self.invariant.1 in (
      at.1,
      (ap (λ (t : T). t.book) at.0 ∙ sym (ap (λ (t : T). t.book) e.2 ∙ e.1), (p ∷ [], ap (λ (t : T). t.log ++ p ∷ []) at.0 ∙ sym (ap (λ (t : T). t.log) e.2 ∙ e.0))),
    )

pub returns-clause-list : goal.returns-clause-list
returns-clause-list g c =
    let a = c.in-Some-drafted.ensures in
    let kept : Shown = c.self.inside.kept in
    let shown : Shown = c.in-Some-drafted.shown in
    let now : List Publication = c.args.self.now.list in
    let p : Publication = publication (kept.serial + 1) c.args.seq c.args.engine in
    let same : kept.known.log ≡ now = ap (λ (v : Published). v.list) c.self.view_is in
    let n : kept.serial + 1 ≡ shown.serial = omega (arith, kept.long, shown.long, ap length a.0, length-append kept.known.log (p ∷ [])) in (
      omega (arith, kept.long, ap length same, n),
      ap (λ (s : Shown). s.known.log) c.replace-old.ensures.after ∙ (a.0 ∙ (ap (λ (xs : List Publication). xs ++ p ∷ []) same ∙ ap (λ (m : ℕ). now ++ publication m c.args.seq c.args.engine ∷ []) n)),
    )
