use Rattle.std.proofs.Common.{◌<◌, ◌++◌, ◌∙◌, ap, arith, length}
use Rattle.rg_acl.specs.Rows.{rows_for}
use Rattle.rg_acl.specs.Work.{bound_for}
use Rattle.rg_acl.proofs.Counting.{made_more, tried_more}
use Rattle.rg_acl.proofs.Joined.{askers_next}
use Rattle.rg_acl.proofs.asking.add_rows.Goals as goal

pub returns-in_err-add_rows_for-clause-made : goal.returns-in_err-add_rows_for-clause-made
returns-in_err-add_rows_for-clause-made g c = made_more _ _ _ c.loop-asker.invariant.made c.add_rows_for.ensures.made

pub loop-asker-preserved : goal.loop-asker-preserved
loop-asker-preserved g c =
    let before = c.loop-asker.invariant in
    let within : c.loop-asker.asker-index < length c.args.askers.now = omega arith in
    let facts = c.args.engine.now in
    let ask = c.args.ask.now in
    record {
      rows = c.in_ok-add_rows_for.ensures.rows ∙ ap (λ rows. rows ++ rows_for facts ask c.args.accesses.now c.asker-item.result) before.rows
          ∙ askers_next facts ask c.args.rows.now.items c.args.accesses.now c.args.askers.now c.loop-asker.asker-index c.asker-item.result within c.asker-item.is;
      made = made_more _ _ _ before.made c.add_rows_for.ensures.made;
      tries = tried_more (bound_for facts ask) (length c.args.rows.now.items) (length c.loop-asker.rows.items) (length c.add_rows_for.new.rows.items)
          c.args.steps.now c.loop-asker.steps c.add_rows_for.new.steps before.tries c.in_ok-add_rows_for.ensures.tries;
    }
