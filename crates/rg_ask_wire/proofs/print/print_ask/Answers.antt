use Rattle.rg_wire.proofs.Itself.{weaker}
use Rattle.rg_ask_wire.proofs.Asked.{printed_again}
use Rattle.rg_ask_wire.proofs.print.print_ask.Goals as goal

pub returns-clause-again : goal.returns-clause-again
returns-clause-again c = weaker c.text_of.result (printed_again c.args.ask.now _ c.in_ok-value.ensures) c.text_of.ensures.back
