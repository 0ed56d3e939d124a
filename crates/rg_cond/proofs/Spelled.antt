-- The characters of the words that conditions and schedules are written with.
use Rattle.std.proofs.Common.{◌≡◌, refl}
use Rattle.std.specs.Prelude.{codes}
use Rattle.std.specs.Str.{chars}
use Rattle.std.proofs.lemmas.Str.{chars-nil}
use Rattle.rg_cond.specs.declared.kinds.Kind.TheVariants as kind
use Rattle.rg_cond.specs.Kinds.{name_of}
use Rattle.rg_cond.specs.Words.{utc_name, gmt_name, yes_word, true_word, no_word, false_word, attribute_option, expiry_attribute}

pub utc_chars : chars (codes "UTC") ≡ utc_name
unfolding chars utc_name
utc_chars = refl

pub gmt_chars : chars (codes "GMT") ≡ gmt_name
unfolding chars gmt_name
gmt_chars = refl

pub expiry_chars : chars (codes "accessed-after-expiry") ≡ name_of kind.AccessedAfterExpiry
unfolding chars name_of
expiry_chars = refl

pub address_chars : chars (codes "ip-range") ≡ name_of kind.IpRange
unfolding chars name_of
address_chars = refl

pub within_chars : chars (codes "context-value-in") ≡ name_of kind.ContextValueIn
unfolding chars name_of
within_chars = refl

pub without_chars : chars (codes "context-value-not-in") ≡ name_of kind.ContextValueNotIn
unfolding chars name_of
without_chars = refl

pub yes_chars : chars (codes "yes") ≡ yes_word
unfolding chars yes_word
yes_chars = refl

pub true_chars : chars (codes "true") ≡ true_word
unfolding chars true_word
true_chars = refl

pub no_chars : chars (codes "no") ≡ no_word
unfolding chars no_word
no_chars = refl

pub false_chars : chars (codes "false") ≡ false_word
unfolding chars false_word
false_chars = refl

pub attribute_chars : chars (codes "attributeName") ≡ attribute_option
unfolding chars attribute_option
attribute_chars = refl

pub date_chars : chars (codes "expiry_date") ≡ expiry_attribute
unfolding chars expiry_attribute
date_chars = refl

pub ruleset names = (expiry_chars, address_chars, within_chars, without_chars)

pub ruleset words = (chars-nil, utc_chars, gmt_chars, yes_chars, true_chars, no_chars, false_chars, attribute_chars, date_chars)
