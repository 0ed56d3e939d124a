-- The character of `*`, and the empty text.
use Rattle.std.proofs.Common.{◌≡◌, [], refl}
use Rattle.std.proofs.lemmas.Str.{chars-nil}
use Rattle.std.specs.Prelude.{codes}
use Rattle.std.specs.Str.{chars}
use Rattle.rg_resmatch.specs.Tests.{star}

pub star_chars : chars (codes "*") ≡ star
unfolding chars
star_chars = refl

pub ruleset star_facts = (star_chars)

-- nobody's name
pub no_user : chars [] ≡ []
no_user = chars-nil
