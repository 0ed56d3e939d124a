use Rattle.std.proofs.Common.{◌≡◌, ◌∙◌, true, rules}
use Rattle.rg_ask_wire.specs.Keeping.{is_keeping}
use Rattle.rg_keep.proofs.Adding.{first_of, kept_reply}
use Rattle.rg_keep.proofs.reopen.take_ask.Goals as goal

pub returns-clause-good : goal.returns-clause-good
returns-clause-good c =
    let keeps : is_keeping c.args.ask.command ≡ true = search rules in
    c.accepts.ensures ∙ kept_reply c.args.admin.now _ c.args.ask c.in_ok-reply.reply c.in_ok-reply.ensures.ok keeps

pub returns-clause-after : goal.returns-clause-after
returns-clause-after c = λ good. first_of c.args.admin.now _ c.args.ask c.in_ok-reply.reply c.in_ok-reply.ensures.ok
