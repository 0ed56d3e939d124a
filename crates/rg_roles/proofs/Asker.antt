-- The characters of the group of everybody.
use Rattle.std.proofs.Common.{◌≡◌, refl}
use Rattle.std.specs.Prelude.{codes}
use Rattle.std.specs.Str.{chars}
use Rattle.rg_roles.specs.Members.{everybody}

pub everybody_chars : chars (codes "public") ≡ everybody
unfolding chars everybody
everybody_chars = refl

pub ruleset asker = (everybody_chars)
