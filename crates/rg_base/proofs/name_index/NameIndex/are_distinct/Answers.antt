use Rattle.std.proofs.Common.{ap, ◌∙◌}
use Rattle.std.specs.Option.{is_none}
use Rattle.rg_base.proofs.Names.{distinct_is, flip_not}
use Rattle.rg_base.proofs.name_index.NameIndex.are_distinct.Goals as goal

pub returns : goal.returns
returns c = flip_not _ _ c.is_none.ensures ∙ ap is_none c.first_repeat.ensures ∙ distinct_is c.args.self.now
