-- The characters of the word `tag`.
use Rattle.std.proofs.Common.{◌≡◌, refl}
use Rattle.std.specs.Prelude.{codes}
use Rattle.std.specs.Str.{chars}
use Rattle.rg_defs.specs.Rules.{tag_name}

pub tag_chars : chars (codes "tag") ≡ tag_name
unfolding chars tag_name
tag_chars = refl

pub ruleset tag_facts = (tag_chars)
