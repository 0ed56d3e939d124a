use Rattle.rg_run.proofs.machine.run_plain.Goals as goal

pub returns : goal.returns
returns g c = (_, _, _, _, _, c.run-status.ensures.answers)
