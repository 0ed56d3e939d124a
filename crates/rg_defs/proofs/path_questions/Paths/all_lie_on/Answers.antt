use Rattle.std.proofs.Common.{map, ◌∙◌, ap}
use Rattle.std.specs.List.{list_all}
use Rattle.rg_defs.specs.PathTests.{lies_on}
use Rattle.rg_defs.proofs.path_questions.Paths.all_lie_on.Goals as goal

pub returns : goal.returns
returns g c = c.all_lie_on.ensures ∙ ap (λ ls. list_all (lies_on ls c.args.path.now) (map g.T.Named.named c.args.things.now)) c.levels.ensures
