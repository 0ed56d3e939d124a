use Rattle.rg_wire.proofs.Itself.{printed_again, weaker}
use Rattle.rg_wire.proofs.policy_text.print_policy.Goals as goal

pub returns-clause-again : goal.returns-clause-again
returns-clause-again c = weaker c.text_of.result (printed_again c.args.policy.now _ c.in_ok-value.ensures) c.text_of.ensures.back
