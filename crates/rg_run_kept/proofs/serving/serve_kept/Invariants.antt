use Rattle.rg_run_kept.proofs.serving.serve_kept.Given as goal

abbrev pub ghosts-serve_named : goal.ghosts-serve_named
ghosts-serve_named g a = record { config = a.config }
