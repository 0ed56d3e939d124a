use Rattle.rg_turn.proofs.Histories.{legal_snoc, legal_last, state_after_snoc}
use Rattle.rg_turn.proofs.laws.one_more_entry.Goals as goal

pub returns-clause-legal : goal.returns-clause-legal
returns-clause-legal g c s h e = legal_snoc g.M.Machine.transition s h e

pub returns-clause-reply : goal.returns-clause-reply
returns-clause-reply g c s h e = legal_last g.M.Machine.transition s h e

pub returns-clause-state : goal.returns-clause-state
returns-clause-state g c s h e = state_after_snoc g.M.Machine.transition s h e
