use Rattle.std.proofs.Common.{◌∙◌}
use Rattle.rg_base.proofs.Lists.{any_among_either}
use Rattle.rg_base.proofs.name_index.NameIndex.any_among.Goals as goal

pub returns : goal.returns
returns c = c.contains_any.ensures ∙ any_among_either c.args.names.now c.args.self.now
