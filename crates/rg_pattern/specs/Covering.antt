-- When one pattern covers another, atom by atom.
use Rattle.std.specs.Prelude.{ℕ, Bool, ◌≡◌, ◌⊎◌, List, [], ◌∷◌, ◌++◌}
use Rattle.rg_pattern.specs.declared.atoms.Atom.{Atom}
use Rattle.rg_pattern.specs.declared.atoms.Atom.TheVariants.{Character, One, Any, User}
use Rattle.rg_base.specs.Folding.{folded_char}

-- One or a character
abbrev pub IsSingle : Atom → Type 0
IsSingle a = (a ≡ One) ⊎ ((c : ℕ) × (a ≡ Character c))

-- nothing covers nothing; Any covers any atoms, One covers One or a character, and a character or User covers the same atom, folded alike
abbrev pub Covers : Bool → List Atom → List Atom → Type 0
Covers fold [] p = p ≡ []
Covers fold (Any ∷ q) p = (skipped rest : List Atom) × (p ≡ skipped ++ rest) × Covers fold q rest
Covers fold (One ∷ q) p = (b : Atom) × (rest : List Atom) × (p ≡ b ∷ rest) × IsSingle b × Covers fold q rest
Covers fold (Character c ∷ q) p = (d : ℕ) × (rest : List Atom) × (p ≡ Character d ∷ rest) × (folded_char fold c ≡ folded_char fold d) × Covers fold q rest
Covers fold (User ∷ q) p = (rest : List Atom) × (p ≡ User ∷ rest) × Covers fold q rest
