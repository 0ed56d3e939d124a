use Rattle.test_kept.proofs.recording.recorder.recorded.Given as goal

abbrev pub ghosts-recorded_as : goal.ghosts-recorded_as
ghosts-recorded_as g a = record { config = a.config }
