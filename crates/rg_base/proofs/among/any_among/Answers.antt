use Rattle.std.proofs.Common.{◌∙◌}
use Rattle.rg_base.proofs.Lists.{any_among_either}
use Rattle.rg_base.proofs.among.any_among.Goals as goal

pub returns-else-names-others : goal.returns-else-names-others
returns-else-names-others c = c.any_by_index-else-names-others.ensures ∙ any_among_either c.args.others.now c.args.names.now
