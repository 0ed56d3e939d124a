use Rattle.std.proofs.Common.{rules}
use Rattle.std.proofs.lemmas.List.Edits.{map_over_more}
use Rattle.rg_admin.specs.Held.{settled}
use Rattle.rg_admin.proofs.planning.settle_each.Goals as goal

pub loop-log-preserved : goal.loop-log-preserved
loop-log-preserved c = search (rules, map_over_more settled)
