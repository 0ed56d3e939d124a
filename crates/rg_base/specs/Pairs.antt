-- Keys with values.
use Rattle.std.specs.Prelude.{ℕ, List, Option, option_map}
use Rattle.std.specs.List.{find}
use Rattle.std.specs.Str.{bytes_eq}
use Rattle.rg_base.specs.declared.pair.Pair.{Pair}

-- the value of the first pair with this key
abbrev pub value_of : List ℕ → List Pair → Option (List ℕ)
value_of key pairs = option_map (λ (p : Pair). p.value) (find (λ (p : Pair). bytes_eq p.key key) pairs)
