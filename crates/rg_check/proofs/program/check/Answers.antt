use Rattle.rg_check.proofs.program.check.Goals as goal

pub returns : goal.returns
returns g c = record { answers = (_, c.number.ensures, c.check_script.ensures) }
