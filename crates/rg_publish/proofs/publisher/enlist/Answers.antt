use Rattle.std.proofs.Common.{◌≡◌, ◌+◌, ◌-◌, List, [], ◌∷◌, ◌++◌, length, Some, slice_get, arith, length-append, sym, ap, ◌∙◌, subst}
use Rattle.std.specs.Arc.{arc_value}
use Rattle.rg_publish.specs.declared.history.Publication.{Publication}
use Rattle.rg_publish.specs.Publications.{publication}
use Rattle.rg_publish.proofs.Lists.{get_last}
use Rattle.rg_publish.proofs.Adding.{adds_moves}
use Rattle.rg_publish.proofs.publisher.enlist.Goals as goal

pub compare_exchange-found-requires : goal.compare_exchange-found-requires
compare_exchange-found-requires c =
    let E : Type 0 = Publication in
    let h = c.requires.head in
    let seen = c.again-seen.ensures in
    let offer = c.plain-offer.ensures in
    let pen = c.no_pen-pen.ensures in
    let book = ap (λ s. s.book) seen in
    let e : E = publication c.args.draft.serial c.args.draft.seq (arc_value c.args.draft.engine) in
    let here = book ∙ sym (ap (λ w. w.book) h) in (
      ap (λ w. w.tracked) h,
      here,
      pen.0 ∙ here,
      offer.0,
      rw (ap (λ w. w.key) h, pen.1, offer.1, offer.3) (adds_moves c.again-seen.result.log e c.args.old (ap (λ s. length s.log) seen ∙ c.requires.draft.0) c.requires.draft.1),
    )

pub invariant_of-result : goal.invariant_of-result
invariant_of-result c =
    let E : Type 0 = Publication in
    let e : E = publication c.args.draft.serial c.args.draft.seq (arc_value c.args.draft.engine) in
    let found = c.compare_exchange-found.ensures in
    let was : List E = c.args.known.now.log in
    let log : c.compare_exchange-found.new.seen.log ≡ was ++ e ∷ [] = found.7 c.if-found-old.false ∙ (λ i. (c.again-seen.ensures i).log ++ c.plain-offer.ensures.1 i ∷ []) in
    let long = c.requires.draft.0 in
    let next = c.requires.draft.1 in record {
      long = ap length log ∙ omega (arith, length-append was (e ∷ []), long, next);
      last = subst (λ l. slice_get l (c.args.draft.serial - 1) ≡ Some e) (sym log) (get_last was e (c.args.draft.serial - 1) (omega (arith, long, next)));
    }
