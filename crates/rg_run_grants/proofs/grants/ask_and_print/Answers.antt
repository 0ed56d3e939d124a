use Rattle.std.proofs.Common.{string_bytes}
use Rattle.rg_run_grants.proofs.Granted.{granted_work}
use Rattle.rg_run_script.proofs.Written.{written_so}
use Rattle.rg_run_grants.proofs.grants.ask_and_print.Goals as goal

pub returns : goal.returns
returns c = written_so c.add_reply.result _ _
    (granted_work c.args.granting.now c.ask.new.self c.args.ask c.in_ok-reply.reply (string_bytes c.args.text.now) (string_bytes c.add_reply.new.text)
    c.in_ok-reply.ensures.ok) c.add_reply.ensures
