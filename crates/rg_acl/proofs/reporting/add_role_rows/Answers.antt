use Rattle.std.proofs.Common.{◌≡◌, ◌++◌, ◌∙◌, List, OnOk, ap, length, subst}
use Rattle.std.proofs.lemmas.Result.{on_ok_weaker}
use Rattle.rg_acl.specs.Rows.{rows_of}
use Rattle.rg_acl.specs.Strangers.{with_members}
use Rattle.rg_acl.specs.declared.row.ReportRow.{ReportRow}
use Rattle.rg_acl.proofs.Counting.{made_more}
use Rattle.rg_acl.proofs.Joined.{rows_agree, tried_alike}
use Rattle.rg_acl.proofs.reporting.add_role_rows.Goals as goal

pub returns-clause-rows : goal.returns-clause-rows
returns-clause-rows g c =
    subst (λ (rows : List ReportRow). OnOk c.add_rows.result (c.add_rows.new.rows.items ≡ c.args.rows.now.items ++ rows))
    (rows_agree c.in_ok-members.members (with_members c.args.stranger.now c.args.engine.now) c.in_ok-members.ensures.answers c.args.ask.now c.args.accesses.now c.as_slice.result.now
    ∙ ap (rows_of (with_members c.args.stranger.now c.args.engine.now) c.args.ask.now c.args.accesses.now) (c.as_slice.ensures.value ∙ c.in_ok-askers.ensures))
    c.add_rows.ensures.rows

pub returns-clause-made : goal.returns-clause-made
returns-clause-made g c = made_more _ _ _ c.with_members.ensures.made c.add_rows.ensures.made

pub returns-clause-tries : goal.returns-clause-tries
returns-clause-tries g c =
    on_ok_weaker c.add_rows.result
    (tried_alike c.in_ok-members.members c.args.engine.now c.args.ask.now c.in_ok-members.ensures.bound (length c.args.rows.now.items) (length c.add_rows.new.rows.items)
    c.args.steps.now c.with_members.new.steps c.add_rows.new.steps c.with_members.ensures.tries)
    c.add_rows.ensures.tries
