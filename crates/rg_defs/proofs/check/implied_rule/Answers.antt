use Rattle.std.proofs.Common.{◌∙◌}
use Rattle.rg_defs.proofs.Known.{known_grants}
use Rattle.rg_defs.proofs.check.implied_rule.Goals as goal

pub returns : goal.returns
returns c = c.are_implied_known.ensures ∙ known_grants _ c.args.types.now c.requires
