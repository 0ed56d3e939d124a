-- For proofs alone: what the map of an index of names has.
use Rattle.std.specs.Prelude.{ℕ, suc, ◌≡◌, List, [], ◌∷◌, Option, Some, None, option_map, if◌then◌else◌}
use Rattle.std.specs.BTreeMap.{BTreeMap, get_by_text}
use Rattle.std.specs.Str.{IsUtf8, bytes_eq, chars}
use Rattle.std.specs.declared.string.String.{String}

-- the first place of the name
abbrev pub place_in : List (List ℕ) → List ℕ → Option ℕ
place_in [] name = None
place_in (n ∷ names) name = if bytes_eq n name then Some 0 else option_map suc (place_in names name)

-- the map gives the first place of every name
abbrev pub IsIndex : {Z : Type 0} → BTreeMap (String Z) ℕ → List (List ℕ) → Type 0
IsIndex places names = (bytes : List ℕ) → IsUtf8 bytes → get_by_text places bytes ≡ place_in names (chars bytes)
