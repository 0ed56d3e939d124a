use Rattle.std.proofs.Common.{ap, sym, ◌∙◌}
use Rattle.rg_cond.specs.Kinds.{name_of}
use Rattle.rg_cond.proofs.Spelled.{expiry_chars, within_chars, without_chars}
use Rattle.rg_cond.proofs.kinds.name_of.Goals as goal

pub returns-in-AccessedAfterExpiry : goal.returns-in-AccessedAfterExpiry
returns-in-AccessedAfterExpiry c = expiry_chars ∙ ap name_of (sym c.in-AccessedAfterExpiry.is)

pub returns-in-ContextValueIn : goal.returns-in-ContextValueIn
returns-in-ContextValueIn c = within_chars ∙ ap name_of (sym c.in-ContextValueIn.is)

pub returns-in-ContextValueNotIn : goal.returns-in-ContextValueNotIn
returns-in-ContextValueNotIn c = without_chars ∙ ap name_of (sym c.in-ContextValueNotIn.is)
