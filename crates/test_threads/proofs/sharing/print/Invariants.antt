use Rattle.test_threads.proofs.sharing.print.Given as goal

abbrev pub ghosts-queued : goal.ghosts-queued
ghosts-queued g a = record { name = a.blank.name; parts = a.blank.parts }
