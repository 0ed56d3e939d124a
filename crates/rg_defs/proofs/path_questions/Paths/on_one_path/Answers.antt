use Rattle.std.proofs.Common.{map, ap, ◌∙◌}
use Rattle.std.proofs.lemmas.List.{append-nil}
use Rattle.rg_defs.specs.PathTests.{on_one_path}
use Rattle.rg_defs.proofs.path_questions.Paths.on_one_path.Goals as goal

pub returns : goal.returns
returns g c = c.both_on_one_path.ensures ∙ ap (on_one_path c.args.self.now) (append-nil (map g.T.Named.named c.args.things.now))
