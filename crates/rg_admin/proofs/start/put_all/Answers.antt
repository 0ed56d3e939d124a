use Rattle.std.proofs.Common.{◌≡◌, List, [], ◌∷◌, map, length, None, refl, sym, ap, ◌∙◌, subst, arith}
use Rattle.std.specs.Vec.Iter.{into_iter_items}
use Rattle.rg_validate.specs.Failing.{first_failing}
use Rattle.rg_admin_laws.specs.Changes.{after_command}
use Rattle.rg_admin.specs.Starting.{IsCause, put_all, put_fault, start_rules}
use Rattle.rg_admin.proofs.PutRows.{cause_first, leads_one, passes_one}
use Rattle.rg_admin.proofs.start.put_all.Goals as goal

no_rows : {X : Type 0} (xs : List X) → length xs ≡ 0 → xs ≡ []
no_rows [] none = refl
no_rows (x ∷ xs) none = absurd (omega (arith, none))

pub loop-row-init : goal.loop-row-init
loop-row-init g c =
    let all = c.into_iter-row-iterator.ensures.into_iter_gives.0 in record {
      putting = c.requires;
      fault = ap (λ xs. put_fault c.args.putting.now.state (map g.T.Configured.put_by xs)) (sym all);
      led = ap (λ xs. put_all c.args.putting.now.state (map g.T.Configured.put_by xs)) (sym all);
    }

pub put-requires : goal.put-requires
put-requires g c = c.loop-row.invariant.putting

pub loop-row-preserved : goal.loop-row-preserved
loop-row-preserved g c =
    let f = g.T.Configured.put_by in
    let s = c.loop-row.putting.state in
    let more = map f (into_iter_items c.next.new.self) in
    let done = c.in_default.ensures in
    let first = c.in-Some.ensures.steps.0 in record {
      putting = done.putting;
      fault = c.loop-row.invariant.fault ∙ (ap (λ xs. put_fault s (map f xs)) first ∙ passes_one s c.put.new.putting.state (f c.in-Some.row) more done.passed done.made);
      led = c.loop-row.invariant.led ∙ (ap (λ xs. put_all s (map f xs)) first ∙ leads_one s c.put.new.putting.state (f c.in-Some.row) more done.made);
    }

pub returns-in-Err-clause-err : goal.returns-in-Err-clause-err
returns-in-Err-clause-err g c =
    let f = g.T.Configured.put_by in
    let s = c.loop-row.putting.state in
    let more = map f (into_iter_items c.next.new.self) in
    subst (IsCause c.in-Err.fault) (sym (c.loop-row.invariant.fault ∙ ap (λ xs. put_fault s (map f xs)) c.in-Some.ensures.steps.0))
    (cause_first c.in-Err.fault (first_failing (start_rules s (f c.in-Some.row))) (put_fault (after_command s (f c.in-Some.row)) more) c.in-Err.ensures.err)

pub returns-clause-ok : goal.returns-clause-ok
returns-clause-ok g c =
    let f = g.T.Configured.put_by in
    let s = c.loop-row.putting.state in
    let none = no_rows (into_iter_items c.loop-row.row-iterator) (omega (arith, c.in-None.ensures.steps.0, c.loop-row.row-iterator.rest.ok)) in record {
      fault = c.loop-row.invariant.fault ∙ ap (λ xs. put_fault s (map f xs)) none;
      led = sym (c.loop-row.invariant.led ∙ ap (λ xs. put_all s (map f xs)) none);
    }

pub returns-clause-putting : goal.returns-clause-putting
returns-clause-putting g c = c.loop-row.invariant.putting
