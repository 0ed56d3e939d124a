use Rattle.std.proofs.Common.{◌++◌, sym, ap, ◌∙◌}
use Rattle.rg_policy_sets.specs.Kept.{slot_forms}
use Rattle.rg_policy_sets.proofs.Moves.{untouched_moved}
use Rattle.rg_policy_sets.proofs.Refiled.{if_ok}
use Rattle.rg_policy_sets.proofs.moving.move_page.Goals as goal

pub returns-else-is_touched-clause-slots : goal.returns-else-is_touched-clause-slots
returns-else-is_touched-clause-slots g c =
    let same = untouched_moved g.H.Fileable.form_of c.args.places.now (g.C.Compile.hold c.args.compiler.now) c.args.page.now (sym c.if-is_touched.ensures) in
    if_ok c.push_page.result (λ u is. is ∙ ap (λ l. c.args.moving.now.slots ++ l) (sym same)) c.push_page.ensures

pub returns-else-is_touched-clause-forms : goal.returns-else-is_touched-clause-forms
returns-else-is_touched-clause-forms g c =
    let form = g.H.Fileable.form_of in
    let same = untouched_moved form c.args.places.now (g.C.Compile.hold c.args.compiler.now) c.args.page.now (sym c.if-is_touched.ensures) in
    if_ok c.push_page.result (λ u made. λ before after is. is ∙ ap (λ l. before ++ (slot_forms form l ++ after)) (sym same)) c.push_page.ensures
