use Rattle.std.proofs.Common.{◌∙◌}
use Rattle.rg_defs.proofs.Named.{on_paths}
use Rattle.rg_defs.proofs.path_questions.Paths.both_on_one_path.Goals as goal

pub returns : goal.returns
returns g c = c.on_some_path.ensures ∙ on_paths c.args.self.now _ _ _ c.levels.ensures c.as_slice.ensures
