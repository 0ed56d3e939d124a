use Rattle.std.proofs.Common.{ap₂, sym, ◌∙◌}
use Rattle.std.specs.Cmp.Lexicographic.{slice_cmp}
use Rattle.std.specs.Ordering.{nat_cmp}
use Rattle.std.proofs.lemmas.Str.{encodes-chars}
use Rattle.rg_key_order.proofs.lists.is_before.Goals as goal

pub returns-in-Less : goal.returns-in-Less
returns-in-Less c = λ _. ap₂ (slice_cmp nat_cmp) (encodes-chars c.args.a.now c.utf8.a) (encodes-chars c.args.b.now c.utf8.b) ∙ sym c.cmp.ensures ∙ c.in-Less.is
