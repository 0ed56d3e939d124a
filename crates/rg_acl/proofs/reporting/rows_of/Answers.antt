use Rattle.std.proofs.Common.{ap, length}
use Rattle.rg_acl.specs.Work.{bound_for}
use Rattle.rg_acl.proofs.Counting.{made_more}
use Rattle.rg_acl.proofs.Joined.{rows_joined, tried_thrice}
use Rattle.rg_acl.proofs.reporting.rows_of.Goals as goal

pub returns-clause-rows : goal.returns-clause-rows
returns-clause-rows g c =
    rows_joined c.args.engine.now c.args.ask.now c.args.accesses.now c.args.stranger.now c.args.askers.now c.args.roles.now _ _ _ _
    c.new-rows.ensures.items c.in_ok-add_rows.ensures.rows c.in_ok-add_role_rows.ensures.rows c.in_ok-add_other_rows.ensures.rows

pub returns-clause-made : goal.returns-clause-made
returns-clause-made g c = made_more _ _ _ c.add_rows.ensures.made (made_more _ _ _ c.add_role_rows.ensures.made c.add_other_rows.ensures.made)

pub returns-in_err-add_role_rows-clause-made : goal.returns-in_err-add_role_rows-clause-made
returns-in_err-add_role_rows-clause-made g c = made_more _ _ _ c.add_rows.ensures.made c.add_role_rows.ensures.made

pub returns-in_err-add_other_rows-clause-made : goal.returns-in_err-add_other_rows-clause-made
returns-in_err-add_other_rows-clause-made g c = made_more _ _ _ c.add_rows.ensures.made (made_more _ _ _ c.add_role_rows.ensures.made c.add_other_rows.ensures.made)

pub returns-clause-tries : goal.returns-clause-tries
returns-clause-tries g c =
    tried_thrice (bound_for c.args.engine.now c.args.ask.now) _ _ _ _ c.args.steps.now c.add_rows.new.steps c.add_role_rows.new.steps c.add_other_rows.new.steps
    (ap length c.new-rows.ensures.items)
    c.in_ok-add_rows.ensures.tries c.in_ok-add_role_rows.ensures.tries c.in_ok-add_other_rows.ensures.tries
