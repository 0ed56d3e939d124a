use Rattle.std.proofs.Common.{rules}
use Rattle.std.proofs.lemmas.List.Edits.{map_over_more}
use Rattle.rg_policy_sets.specs.Plan.{or_new}
use Rattle.rg_policy_sets.proofs.plan.renew_added.Goals as goal

pub loop-made-preserved : goal.loop-made-preserved
loop-made-preserved g c = search (rules, map_over_more (or_new g.X.Identified.id_of c.args.item.now))
