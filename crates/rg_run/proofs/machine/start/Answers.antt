use Rattle.rg_run.proofs.machine.start.Goals as goal

pub returns-in-Err : goal.returns-in-Err
returns-in-Err g c = c.out_of_memory.ensures _
