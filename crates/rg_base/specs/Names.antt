-- Lists of names, and the first of them that stands twice.
use Rattle.std.specs.Prelude.{ℕ, zero, suc, Bool, List, [], length, take, Option, Some, None, slice_index_or, if◌then◌else◌}
use Rattle.std.specs.Option.{option_or}
use Rattle.rg_base.specs.Texts.{is_among}

-- the least place below n that passes
abbrev pub first_place : (ℕ → Bool) → ℕ → Option ℕ
first_place test zero = None
first_place test (suc n) = option_or (first_place test n) (if test n then Some n else None)

-- the name at this place stands before it too
abbrev pub repeats : List (List ℕ) → ℕ → Bool
repeats names place = is_among (slice_index_or names place []) (take place names)

-- the least place of a name that stands before it too
abbrev pub first_repeat : List (List ℕ) → Option ℕ
first_repeat names = first_place (repeats names) (length names)
