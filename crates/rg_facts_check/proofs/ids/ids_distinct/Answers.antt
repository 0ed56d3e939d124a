use Rattle.std.proofs.Common.{◌≡◌, true, false, pos, rules, arith, sym, ◌∙◌, ◌-◌, get_or}
use Rattle.std.proofs.lemmas.Int.{to_z-of_z}
use Rattle.std.specs.BTreeSet.{contains}
use Rattle.std.specs.Ordering.{int_cmp}
use mir.Syntax.{w64}
use mir.Val.{SFits, of_z, to_z}
use Rattle.rg_facts_check.proofs.Distinct.{distinct_more, repeat_before, seen_more}
use Rattle.rg_facts_check.proofs.ids.ids_distinct.Goals as goal

pub loop-at-preserved : goal.loop-at-preserved
loop-at-preserved c =
    let ids = c.args.ids.now in
    let x = get_or ids (c.loop-at.at - 1) (pos 0) in
    let fits : SFits w64 x = search rules in
    let same : to_z w64 (of_z w64 x) ≡ x = to_z-of_z w64 x fits in
    let updates = rw same at c.in-Ok-true.ensures.updates in
    let added = rw same at c.in-Ok-true.ensures.added in
    let new : contains int_cmp c.loop-at.seen x ≡ false = grind arith in
    record {
      seen = λ id. seen_more ids c.loop-at.at id _ _ c.loop-at-test.true c.loop-at.auto.at (updates.0 id) (c.loop-at.invariant.seen id);
      distinct = distinct_more ids c.loop-at.at c.loop-at-test.true c.loop-at.auto.at (sym (c.loop-at.invariant.seen x) ∙ new) c.loop-at.invariant.distinct;
    }

pub returns-in-Ok-false : goal.returns-in-Ok-false
returns-in-Ok-false c =
    let ids = c.args.ids.now in
    let x = get_or ids (c.loop-at.at - 1) (pos 0) in
    let fits : SFits w64 x = search rules in
    let same : to_z w64 (of_z w64 x) ≡ x = to_z-of_z w64 x fits in
    let added = rw same at c.in-Ok-false.ensures.added in
    let there : contains int_cmp c.loop-at.seen x ≡ true = grind arith in
    sym (repeat_before ids c.loop-at.at c.loop-at-test.true c.loop-at.auto.at (sym (c.loop-at.invariant.seen x) ∙ there))
