use Rattle.rg_turn.specs.Steps.{call_of}
use Rattle.rg_turn.proofs.exchange.return_machine.Given as goal

abbrev pub ghosts-pass_on : goal.ghosts-pass_on
ghosts-pass_on g a = record { added = call_of a.added.now }
