use Rattle.std.proofs.Common.{arith, false, None, get_or, cond, ◌≡◌, ◌+◌, ◌-◌, ◌∙◌, drop, reverse, sym, ap, subst}
use Rattle.std.proofs.lemmas.List.{get_or_default}
use Rattle.std.specs.BTreeMap.{get}
use Rattle.std.specs.List.{cons_option}
use Rattle.std.specs.Ordering.{int_cmp}
use Rattle.rg_delta.specs.Editing.{AreFates, fate}
use Rattle.rg_delta.proofs.Fated.{born_before}
use Rattle.rg_delta.proofs.fates.fates_of.Goals as goal

pub loop-at-preserved : goal.loop-at-preserved
loop-at-preserved g c =
    let id_of = g.X.Identified.id_of in
    let edits = c.args.edits.now in
    let next : c.loop-at.at - 1 + 1 ≡ c.loop-at.at = omega arith in
    let mark = get_or c.args.marks.now (c.loop-at.at - 1) false in
    record {
      fates = c.in_ok-precede.ensures (subst (λ k. AreFates id_of edits c.loop-at.fates (drop k edits)) (sym next) c.loop-at.invariant.fates);
      born = c.in_ok-add_born.ensures
          ∙ ap (λ x. cons_option (cond mark (fate id_of edits (get int_cmp c.loop-at.fates (id_of x)) x) None) (reverse c.loop-at.last_first.items)) (ap (λ e. e.item) c.edit.view_is)
          ∙ (λ i. cons_option (cond mark (sym (c.loop-at.invariant.fates c.index-edits-at.result.item) i) None) (c.loop-at.invariant.born i))
          ∙ sym (born_before id_of edits c.args.marks.now c.loop-at.at c.index-edits-at.result mark c.requires (omega arith) (omega arith) c.index-edits-at.is
          (get_or_default c.args.marks.now (c.loop-at.at - 1) false mark (omega (arith, c.requires))));
    }
