use Rattle.std.proofs.Common.{rules, ◌≡◌, ◌∙◌, ap, sym, false, map}
use Rattle.rg_admin.specs.Held.{logs_of, settled}
use Rattle.rg_admin.proofs.Settling.{changes_list, each_touched, logs_left, logs_touched}
use Rattle.rg_admin.proofs.planning.plan.Goals as goal

pub returns-in_ok-try_copy-in-DeleteService-clause-due : goal.returns-in_ok-try_copy-in-DeleteService-clause-due
returns-in_ok-try_copy-in-DeleteService-clause-due c = search (rules, logs_left c.in-DeleteService.name c.args.logs.now.items)

pub returns-in_ok-plan_each-in_default : goal.returns-in_ok-plan_each-in_default
returns-in_ok-plan_each-in_default c =
    let others : changes_list c.args.command.now ≡ false = search rules in
    let logs = c.args.logs.now.items in
    record {
      logs = c.in_ok-plan_each-in_default.ensures.logs;
      due = ap (λ ps. logs_of (map settled ps)) c.in_ok-plan_each-in_default.ensures.ok ∙ logs_touched c.args.state.now c.args.command.now logs
          ∙ sym (each_touched c.args.state.now c.args.command.now (logs_of logs) others);
      room = tt;
    }
