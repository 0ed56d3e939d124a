-- How long a script may be.
use Rattle.std.specs.Prelude.{◌+◌, ◌==◌, ◌||◌, ℕ, List, [], ◌∷◌, length, Bool, nat_lt, Option, Some, None, is_none, option_and_then, if◌then◌else◌}

-- the most bytes of a line, without its LF and with its CR
abbrev pub line_limit : ℕ
line_limit = 1048576

-- the most bytes of all
abbrev pub limit : ℕ
limit = 268435456

-- the most bytes that one read is asked for
abbrev pub room : ℕ
room = 16384

-- of a line that has so many bytes already: how many it has after one more, unless it is too long
unfoldable pub byte_after : ℕ → ℕ → Option ℕ
byte_after n b = if b == 10 then Some 0 else (if nat_lt n line_limit then Some (n + 1) else None)

-- the same after these: how many bytes the last line has, unless one is too long
abbrev pub line_after : ℕ → List ℕ → Option ℕ
line_after n [] = Some n
line_after n (b ∷ bs) = option_and_then (λ m. line_after m bs) (byte_after n b)

-- there are too many bytes, or too many in one line
unfoldable pub is_too_long : List ℕ → Bool
is_too_long bytes = nat_lt limit (length bytes) || is_none (line_after 0 bytes)
