use Rattle.rg_keep.specs.Events.{opened}
use Rattle.rg_keep.proofs.Events.{run_agrees}
use Rattle.rg_keep.proofs.laws.lists_are_reopened.Goals as goal

pub returns : goal.returns
returns c = λ config found events is reads. run_agrees config (opened config found) events is.starts is.lawful reads is
