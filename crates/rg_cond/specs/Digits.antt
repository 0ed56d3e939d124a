-- Digits at fixed places of a text. Texts are bytes here: a digit is an ASCII digit.
use Rattle.std.specs.Prelude.{ℕ, ◌+◌, ◌*◌, ◌-◌, Bool, ◌==◌, List, slice_index, if◌then◌else◌}
use Rattle.std.specs.Char.{is_ascii_digit}
use Rattle.std.specs.Cmp.Lexicographic.{pointwise}

-- a byte of a form, in which `d` stands for a digit and each other byte for itself
abbrev pub fits_mark : ℕ → ℕ → Bool
fits_mark mark b = if mark == 100 then is_ascii_digit b else mark == b

-- the text has the form: it is as long, and each byte fits
abbrev pub has_form : List ℕ → List ℕ → Bool
has_form form text = pointwise fits_mark form text

-- the value of the digit at a place
unfoldable pub digit_at : List ℕ → ℕ → ℕ
digit_at text i = if is_ascii_digit (slice_index text i) then slice_index text i - 48 else 0

-- the number that two digits write, and four
unfoldable pub two_at : List ℕ → ℕ → ℕ
two_at text i = digit_at text i * 10 + digit_at text (i + 1)

unfoldable pub four_at : List ℕ → ℕ → ℕ
four_at text i = two_at text i * 100 + two_at text (i + 2)
