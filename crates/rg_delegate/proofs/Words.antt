-- The characters of the words that code writes.
use Rattle.std.proofs.Common.{◌≡◌, refl}
use Rattle.std.specs.Prelude.{codes}
use Rattle.std.specs.Str.{chars}
use Rattle.rg_resmatch.specs.Tests.{star}
use Rattle.rg_roles.specs.Members.{everybody}
use Rattle.rg_items.specs.Subjects.{user_word, owner_word}

pub star_chars : chars (codes "*") ≡ star
unfolding chars
star_chars = refl

pub user_chars : chars (codes "{USER}") ≡ user_word
unfolding chars user_word
user_chars = refl

pub owner_chars : chars (codes "{OWNER}") ≡ owner_word
unfolding chars owner_word
owner_chars = refl

pub everybody_chars : chars (codes "public") ≡ everybody
unfolding chars everybody
everybody_chars = refl

pub ruleset words = (star_chars, user_chars, owner_chars, everybody_chars)
