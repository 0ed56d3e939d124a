use Rattle.std.proofs.Common.{Some, None, append-nil, [], ◌∷◌, ◌++◌, ◌≡◌, ◌∙◌, sym, ap}
use Rattle.std.specs.BTreeMap.{get}
use Rattle.std.specs.Ordering.{int_cmp}
use Rattle.rg_delta.specs.Editing.{became, fate}
use Rattle.rg_delta.specs.Fates.{fated}
use Rattle.rg_delta.proofs.Fated.{kept_next}
use Rattle.rg_delta.proofs.fates.keep.Goals as goal

pub loop-item-preserved-in-Continue-branch-3 : goal.loop-item-preserved-in-Continue-branch-3
loop-item-preserved-in-Continue-branch-3 g c =
    let id_of = g.X.Identified.id_of in
    let edits = c.args.edits.now in
    let item = c.in-Some.item in
    let stays : became id_of edits item ≡ Some item = c.requires item ∙ ap (λ k. fate id_of edits (get int_cmp c.args.fates.now k) item) (sym c.id.ensures)
    ∙ sym (c.in_ok-fate_of.ensures item) ∙ ap (λ f. fated f item) c.in-Stays.is in
    c.in_ok-push-in-Stays.ensures.items ∙ ap (λ l. l ++ item ∷ []) c.loop-item.invariant ∙ sym (kept_next (became id_of edits) c.loop-item.yielded item stays)

pub loop-item-preserved-in-Goes-1 : goal.loop-item-preserved-in-Goes-1
loop-item-preserved-in-Goes-1 g c =
    let id_of = g.X.Identified.id_of in
    let edits = c.args.edits.now in
    let item = c.in-Some.item in
    let goes : became id_of edits item ≡ None = c.requires item ∙ ap (λ k. fate id_of edits (get int_cmp c.args.fates.now k) item) (sym c.id.ensures)
    ∙ sym (c.in_ok-fate_of.ensures item) ∙ ap (λ f. fated f item) c.in-Goes.is in
    c.loop-item.invariant ∙ sym (append-nil _) ∙ sym (kept_next (became id_of edits) c.loop-item.yielded item goes)

pub loop-item-preserved : goal.loop-item-preserved
loop-item-preserved g c =
    let id_of = g.X.Identified.id_of in
    let edits = c.args.edits.now in
    let item = c.in-Some.item in
    let becomes : became id_of edits item ≡ Some c.in-Becomes.new = c.requires item ∙ ap (λ k. fate id_of edits (get int_cmp c.args.fates.now k) item) (sym c.id.ensures)
    ∙ sym (c.in_ok-fate_of.ensures item) ∙ ap (λ f. fated f item) c.in-Becomes.is in
    c.in_ok-push-in-Becomes.ensures.items ∙ ap (λ l. l ++ c.in-Becomes.new ∷ []) c.loop-item.invariant ∙ sym (kept_next (became id_of edits) c.loop-item.yielded item becomes)
