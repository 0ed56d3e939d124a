use Rattle.std.proofs.Common.{rules, ◌∙◌}
use Rattle.std.proofs.lemmas.List.Edits.{map_over_more}
use Rattle.rg_admin.specs.Held.{plan_for}
use Rattle.rg_admin.proofs.Settling.{logs_back, logs_set}
use Rattle.rg_admin.proofs.planning.plan_each.Goals as goal

pub loop-log-preserved : goal.loop-log-preserved
loop-log-preserved c = (search (rules, map_over_more (plan_for c.args.state.now c.args.command.now)), logs_set c.loop-log.log-items c.loop-log.log-index c.plan_one.new.log c.log-item.result c.plan_one.ensures.log ∙ c.loop-log.invariant.1)

pub returns-in_err-plan_one-clause-logs : goal.returns-in_err-plan_one-clause-logs
returns-in_err-plan_one-clause-logs c =
    logs_back _ c.args.logs.now.items c.args.logs.now.len c.args.logs.now.ok.0
    (logs_set c.loop-log.log-items c.loop-log.log-index c.plan_one.new.log c.log-item.result c.plan_one.ensures.log ∙ c.loop-log.invariant.1)

pub returns-clause-logs : goal.returns-clause-logs
returns-clause-logs c = logs_back c.loop-log.log-items c.args.logs.now.items c.args.logs.now.len c.args.logs.now.ok.0 c.loop-log.invariant.1
