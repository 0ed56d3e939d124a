use Rattle.rg_turn.proofs.Histories.{legal_front, state_at_front}
use Rattle.rg_turn.proofs.laws.beginnings.Goals as goal

pub returns-clause-legal : goal.returns-clause-legal
returns-clause-legal g c s h k = legal_front g.M.Machine.transition s h k

pub returns-clause-states : goal.returns-clause-states
returns-clause-states g c s h k n = state_at_front g.M.Machine.transition s h k n
