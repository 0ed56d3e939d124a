-- What a call does to the bytes that an object of the outside tells. One that tells none goes on telling none.
use Rattle.std.specs.Prelude.{◌≡◌, ◌≤◌, ℕ, List, ◌++◌, length, take, drop, Option, Some, None}

-- a read put n bytes into the front of the room, the first of those that were to come, and they are to come no more
abbrev pub Gave : Option (List ℕ) → Option (List ℕ) → ℕ → List ℕ → Type 0
Gave None left n room = left ≡ None
Gave (Some bytes) left n room = (n ≤ length bytes) × (take n room ≡ take n bytes) × (left ≡ Some (drop n bytes))

-- no byte is to come
abbrev pub IsUsedUp : Option (List ℕ) → Type 0
IsUsedUp None = Unit {0}
IsUsedUp (Some bytes) = length bytes ≡ 0

-- a write put the first n bytes of the piece behind those that were held
abbrev pub Took : Option (List ℕ) → Option (List ℕ) → ℕ → List ℕ → Type 0
Took None held n piece = held ≡ None
Took (Some bytes) held n piece = held ≡ Some (bytes ++ take n piece)
