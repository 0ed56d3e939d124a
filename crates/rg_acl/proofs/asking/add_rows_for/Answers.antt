use Rattle.std.proofs.Common.{◌<◌, ◌++◌, ◌∷◌, [], ◌∙◌, ℕ, ap, arith, length, length-append, subst, sym}
use Rattle.rg_acl.specs.Work.{IsTriedFor, bound_for}
use Rattle.rg_acl.proofs.Counting.{made_by_verdict, tried_once}
use Rattle.rg_acl.proofs.Joined.{rows_next}
use Rattle.rg_acl.proofs.asking.add_rows_for.Goals as goal

pub returns-in_err-row-clause-made : goal.returns-in_err-row-clause-made
returns-in_err-row-clause-made g c = made_by_verdict _ _ _ _ c.loop-access.invariant.made c.row_of.ensures.work

pub returns-in_err-push-clause-made : goal.returns-in_err-push-clause-made
returns-in_err-push-clause-made g c = made_by_verdict _ _ _ _ c.loop-access.invariant.made c.row_of.ensures.work

pub loop-access-preserved : goal.loop-access-preserved
loop-access-preserved g c =
    let before = c.loop-access.invariant in
    let within : c.loop-access.access-index < length c.args.accesses.now = omega arith in
    let facts = c.args.engine.now in
    let ask = c.args.ask.now in
    record {
      rows = c.in_ok-push.ensures.items ∙ (λ k. before.rows k ++ c.in_ok-row.ensures.row k ∷ [])
          ∙ rows_next facts ask c.args.rows.now.items c.args.asker.now c.args.accesses.now c.loop-access.access-index c.access-item.result within c.access-item.is;
      made = made_by_verdict _ _ _ _ before.made c.row_of.ensures.work;
      tries = subst (λ (n : ℕ). IsTriedFor (bound_for facts ask) (length c.args.rows.now.items) n c.args.steps.now c.row_of.new.steps)
          (sym (ap length c.in_ok-push.ensures.items ∙ length-append c.loop-access.rows.items (c.in_ok-row.row ∷ [])))
          (tried_once (bound_for facts ask) (length c.args.rows.now.items) (length c.loop-access.rows.items) c.args.steps.now c.loop-access.steps c.row_of.new.steps before.tries c.row_of.ensures.work);
    }
