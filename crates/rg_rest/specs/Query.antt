-- What a query says of the version that its sender has.
use Rattle.std.specs.Prelude.{ℕ, ◌==◌, ◌&&◌, nat_le, Bool, List, length, codes, find, Option, Some, None, option_and_then, if◌then◌else◌}
use Rattle.std.specs.Char.{is_ascii_digit}
use Rattle.std.specs.List.{before_first, after_first, list_all, slice_split}
use Rattle.std.specs.Str.{bytes_eq}
use Rattle.std.specs.Str.Parse.{digits_value}
use Rattle.rg_base.specs.declared.numbers.Version.{Version}

-- there are 1 to so many bytes, each a digit
abbrev pub is_number : ℕ → List ℕ → Bool
is_number most text = nat_le 1 (length text) && (nat_le (length text) most && list_all is_ascii_digit text)

-- pairs stand round each `&`
abbrev pub pairs_of : List ℕ → List (List ℕ)
pairs_of query = slice_split (λ b. b == 38) query

-- a pair's name ends before its first `=`
abbrev pub name_of : List ℕ → List ℕ
name_of pair = before_first (λ b. b == 61) pair

-- and its value stands behind that
abbrev pub value_of : List ℕ → List ℕ
value_of pair = after_first (λ b. b == 61) pair

-- the pair is of this name, to the letter
abbrev pub has_version : List ℕ → Bool
has_version pair = bytes_eq (name_of pair) (codes "lastKnownVersion")

-- 1 to 19 digits, which are always within 64 bits
unfoldable pub version_of : List ℕ → Option Version
version_of value = if is_number 19 value then Some (record { 0 = digits_value 10 value }) else None

-- the version of the first pair of the name
unfoldable pub known_version : List ℕ → Option Version
known_version query = option_and_then (λ pair. version_of (value_of pair)) (find has_version (pairs_of query))
