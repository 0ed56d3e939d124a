use Rattle.std.proofs.Common.{◌∙◌}
use Rattle.rg_defs.proofs.Known.{known_parts}
use Rattle.rg_defs.proofs.check.parts_rule.Goals as goal

pub returns : goal.returns
returns c = c.parts_are_known.ensures ∙ known_parts _ c.args.def.now c.requires
