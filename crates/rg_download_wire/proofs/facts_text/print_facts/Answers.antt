use Rattle.rg_wire.proofs.Itself.{weaker}
use Rattle.rg_download_wire.proofs.Itself.{printed_again}
use Rattle.rg_download_wire.proofs.facts_text.print_facts.Goals as goal

pub returns-clause-again : goal.returns-clause-again
returns-clause-again c = weaker c.text_of.result (printed_again c.args.facts.now _ c.in_ok-value.ensures) c.text_of.ensures.back
