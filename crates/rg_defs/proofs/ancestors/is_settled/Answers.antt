use Rattle.std.proofs.Common.{sym, ◌∙◌}
use Rattle.std.specs.Str.{chars}
use Rattle.rg_defs.proofs.Named.{settled}
use Rattle.rg_defs.proofs.ancestors.is_settled.Goals as goal

pub returns : goal.returns
returns g c = c.is_some_or_above_none.ensures ∙ sym (settled g.T.Named.named c.args.levels.now c.args.things.now (chars c.args.name.now))
