-- What is true of what was read: texts are characters, integers fit, lists have no spare place, and the members of maps stand in
-- byte order.
use Rattle.std.specs.Prelude.{◌≡◌, ℕ, ℤ, List, [], ◌∷◌, Option, Some, None}
use Rattle.std.specs.Str.{IsUtf8, chars, encode_utf8_all}
use Rattle.std.specs.Ordering.{nat_cmp}
use Rattle.std.specs.declared.cmp.Ordering.TheVariants.{Less}
use Rattle.std.specs.Cmp.Lexicographic.{slice_cmp}
use Rattle.serde_json.specs.Data.{Data}
use Rattle.serde_json.specs.Find.{as_i64, of_integer}
use Rattle.rg_base.specs.Listed.{Listed, listed}

-- a text that its own bytes spell
abbrev pub IsText : List ℕ → Type 0
IsText t = chars (encode_utf8_all t) ≡ t

-- an integer of 64 bits
abbrev pub IsInteger : ℤ → Type 0
IsInteger z = as_i64 (of_integer z) ≡ Some z

-- nothing more is asked of a record that is not printed
abbrev pub Whatever : {X : Type 0} → X → Type 0
Whatever x = Unit {0}

abbrev pub EachOf : {X : Type 0} → (X → Type 0) → List X → Type 0
EachOf own [] = Unit {0}
EachOf own (x ∷ xs) = own x × EachOf own xs

abbrev pub OwnList : {X : Type 0} → (X → Type 0) → Listed X → Type 0
OwnList own xs = EachOf own xs.items × (xs ≡ listed xs.items)

abbrev pub OwnOption : {X : Type 0} → (X → Type 0) → Option X → Type 0
OwnOption own None = Unit {0}
OwnOption own (Some x) = own x

-- ---- the members of a map

-- the key is before that of the first member
abbrev pub IsBeforeKey : List ℕ → List (List ℕ × Data) → Type 0
IsBeforeKey k [] = Unit {0}
IsBeforeKey k (m ∷ ms) = slice_cmp nat_cmp k m.0 ≡ Less

-- keys are text, each after those before it in byte order
abbrev pub IsSorted : List (List ℕ × Data) → Type 0
IsSorted [] = Unit {0}
IsSorted (m ∷ ms) = IsUtf8 m.0 × IsBeforeKey m.0 ms × IsSorted ms
