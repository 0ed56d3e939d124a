use Rattle.std.proofs.Common.{inr, refl}
use Rattle.rg_rest.specs.declared.call.Call.TheVariants.{Admin}
use Rattle.rg_rest.specs.Responses.{response_of}
use Rattle.rg_link.proofs.calls.administer.Goals as goal

pub returns-in-Err-reply_response-clause-uncalled : goal.returns-in-Err-reply_response-clause-uncalled
returns-in-Err-reply_response-clause-uncalled g c =
    inr (
      response_of (Admin c.args.command c.args.part) c.in-Ok.reply c.args.message.now.close,
      record { reply = c.in-Ok.reply; turn = c.call_turn.ensures.same.0; begins = c.call_turn.ensures.same.1; called = c.in-Ok.ensures.called; response = refl },
    )
