use Rattle.std.proofs.Common.{ap, ◌∙◌}
use Rattle.std.proofs.lemmas.Str.{scalars-chars}
use Rattle.std.specs.Str.{chars}
use Rattle.rg_pattern.specs.Atoms.{are_scalars}
use Rattle.rg_pattern.proofs.Read.{scalars_read}
use Rattle.rg_pattern.proofs.atoms.Pattern.parse.Goals as goal

pub invariant_of-result : goal.invariant_of-result
invariant_of-result c = ap are_scalars c.in-Ok.ensures ∙ scalars_read c.args.wild 0 (chars c.args.text.now) (scalars-chars c.args.text.now c.utf8.text)
