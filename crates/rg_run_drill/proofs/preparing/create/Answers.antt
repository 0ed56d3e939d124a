use Rattle.rg_run_drill.proofs.Creating.{not_refreshed, refreshed_then}
use Rattle.rg_run_drill.proofs.preparing.create.Goals as goal

pub returns-in_ok-refresh-clause-created : goal.returns-in_ok-refresh-clause-created
returns-in_ok-refresh-clause-created g c =
    refreshed_then c.args.is_due c.args.running.now c.ask.new.self c.args.policy c.in_ok-ask.ask c.in_ok-ask.ensures c.in_ok-reply.ensures.asked c.refresh.new.self c.in_ok-refresh.field-0
    c.if-is_due.true c.in_ok-refresh.ensures.refreshed

pub returns-else-is_due-clause-created : goal.returns-else-is_due-clause-created
returns-else-is_due-clause-created g c =
    not_refreshed c.args.is_due c.args.running.now c.ask.new.self c.args.policy c.in_ok-ask.ask c.in_ok-ask.ensures c.in_ok-reply.ensures.asked c.if-is_due.false
