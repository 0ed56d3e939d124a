use Rattle.std.proofs.Common.{ap, ◌∙◌, Some, option_map}
use Rattle.rg_base.specs.Listed.{Listed}
use Rattle.rg_defs.proofs.Named.{found_path}
use Rattle.rg_defs.proofs.path_questions.Paths.path_for.Goals as goal

pub returns-in-Some : goal.returns-in-Some
returns-in-Some g c = ap Some c.as_slice-in-Some.ensures ∙ ap (option_map (λ (p : Listed _). p.items)) c.in-Some.ensures ∙ found_path c.args.self.now _ _ _ c.levels.ensures c.as_slice.ensures

pub returns-in-None : goal.returns-in-None
returns-in-None g c = ap (option_map (λ (p : Listed _). p.items)) c.in-None.ensures ∙ found_path c.args.self.now _ _ _ c.levels.ensures c.as_slice.ensures
