-- Words that may stand in a head.
use Rattle.std.specs.Prelude.{ℕ, ◌&&◌, nat_le, nat_lt, Bool, List, length}
use Rattle.std.specs.List.{list_all}

-- a byte that is printed and no space
abbrev pub is_visible : ℕ → Bool
is_visible b = nat_lt 32 b && nat_lt b 127

-- 1 to 256 such bytes: what may stand in a head as it is
unfoldable pub is_plain : List ℕ → Bool
is_plain word = nat_lt 0 (length word) && (nat_le (length word) 256 && list_all is_visible word)
