-- The characters of the words that code writes.
use Rattle.std.proofs.Common.{◌≡◌, refl}
use Rattle.std.specs.Prelude.{codes}
use Rattle.std.specs.Str.{chars}
use Rattle.rg_facts.specs.Choices.{no_mask_word}

pub no_mask_chars : chars (codes "MASK_NONE") ≡ no_mask_word
unfolding chars no_mask_word
no_mask_chars = refl

pub ruleset no_mask_facts = (no_mask_chars)
