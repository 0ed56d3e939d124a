use Rattle.std.proofs.Common.{◌∷◌, [], refl, true, ◌∙◌}
use Rattle.rg_resmatch.proofs.Compiling.{answers, seen}
use Rattle.std.proofs.lemmas.Bool.{and_from}
use Rattle.rg_resmatch.proofs.matcher.Matcher.of_resources.Goals as goal

pub from_compiled-requires : goal.from_compiled-requires
from_compiled-requires c = answers c.args.def.now c.args.reach (record { levels = c.args.resources.now } ∷ []) c.in_ok-compiled.compiled.items c.in_ok-compiled.ensures (and_from _ true c.requires.levels refl)

pub returns : goal.returns
returns c = c.from_compiled.ensures ∙ seen c.args.def.now c.args.reach (record { levels = c.args.resources.now } ∷ []) c.in_ok-compiled.compiled.items c.in_ok-compiled.ensures
