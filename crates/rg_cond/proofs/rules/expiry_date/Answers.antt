use Rattle.std.proofs.Common.{◌∙◌}
use Rattle.rg_base.specs.Pairs.{value_of}
use Rattle.rg_cond.proofs.Spelled.{date_chars}
use Rattle.rg_cond.proofs.rules.expiry_date.Goals as goal

pub returns : goal.returns
returns c = c.value_of.ensures ∙ (λ i. value_of (date_chars i) (c.as_slice.ensures i))
