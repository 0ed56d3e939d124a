-- What was read of a source and written to a sink, where they tell.
use Rattle.std.specs.Prelude.{◌≡◌, ℕ, List, ◌++◌, take, Option, Some, None}

-- these bytes were read, and the rest is to come
abbrev pub HasRead : Option (List ℕ) → List ℕ → Option (List ℕ) → Type 0
HasRead None got None = Unit {0}
HasRead None got (Some rest) = ⊥
HasRead (Some all) got None = ⊥
HasRead (Some all) got (Some rest) = all ≡ got ++ rest

-- these are all bytes of the source
abbrev pub IsAll : Option (List ℕ) → List ℕ → Type 0
IsAll None got = Unit {0}
IsAll (Some all) got = got ≡ all

-- the sink got exactly this text
abbrev pub Wrote : Option (List ℕ) → Option (List ℕ) → List ℕ → Type 0
Wrote None new text = new ≡ None
Wrote (Some held) new text = new ≡ Some (held ++ text)

-- the sink got a prefix of this text
abbrev pub WrotePrefix : Option (List ℕ) → Option (List ℕ) → List ℕ → Type 0
WrotePrefix old new text = (n : ℕ) × Wrote old new (take n text)
