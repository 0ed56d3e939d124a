use Rattle.rg_keep.specs.Events.{opened}
use Rattle.rg_keep.proofs.Events.{acknowledged_so, nothing_yet}
use Rattle.rg_keep.proofs.laws.acknowledged_commands_are_kept.Goals as goal

pub returns : goal.returns
returns c = λ config found events. acknowledged_so config found (opened config found) events (nothing_yet found)
