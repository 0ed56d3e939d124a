use Rattle.std.proofs.Common.{◌∙◌, ap, string_bytes}
use Rattle.rg_admin_laws.specs.Steps.{step}
use Rattle.rg_run_replay.specs.Running.{Running, asked}
use Rattle.rg_run_replay.proofs.Working.{asked_work}
use Rattle.rg_run_script.proofs.Written.{written_so}
use Rattle.rg_run_replay.proofs.replay.ask_and_print.Goals as goal

pub returns : goal.returns
returns g c =
    let same = c.deref_mut.ensures.value ∙ c.administered.view_is in
    written_so c.add_reply.result _ _
    (asked_work c.args.administered.now c.ask.new.self c.args.ask c.in_ok-reply.reply (string_bytes c.args.text.now) (string_bytes c.add_reply.new.text)
    (c.in_ok-reply.ensures.asked ∙ ap (λ (r : Running). asked r c.args.ask) same)
    (c.in_ok-reply.ensures.reply ∙ ap (λ (r : Running). (step r.admin c.args.ask).1) same)) c.add_reply.ensures
