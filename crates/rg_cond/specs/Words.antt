-- The words that conditions and schedules are written with.
use Rattle.std.specs.Prelude.{ℕ, List, codes}

unfoldable pub utc_name : List ℕ
utc_name = codes "UTC"

unfoldable pub gmt_name : List ℕ
gmt_name = codes "GMT"

-- the values of `accessed-after-expiry`
unfoldable pub yes_word : List ℕ
yes_word = codes "yes"

unfoldable pub true_word : List ℕ
true_word = codes "true"

unfoldable pub no_word : List ℕ
no_word = codes "no"

unfoldable pub false_word : List ℕ
false_word = codes "false"

-- the option that names a key of the context
unfoldable pub attribute_option : List ℕ
attribute_option = codes "attributeName"

-- the attribute of a tag
unfoldable pub expiry_attribute : List ℕ
expiry_attribute = codes "expiry_date"
