-- When a pattern stands for a text: a relation over all cuts of the text.
use Rattle.std.specs.Prelude.{ℕ, Bool, ◌≡◌, List, [], ◌∷◌, ◌++◌, IsTrue, if◌then◌else◌}
use Rattle.std.specs.Str.{all_scalars}
use Rattle.rg_pattern.specs.declared.atoms.Atom.{Atom}
use Rattle.rg_pattern.specs.declared.atoms.Atom.TheVariants.{Character, One, Any, User}
use Rattle.rg_base.specs.Folding.{folded, folded_char}
use Rattle.rg_pattern.specs.Atoms.{ends_in_slash}

-- a pattern without atoms stands for the empty text; a character stands for itself, One for any one character, User for the user's name, Any for any characters, each up to folding, and the atoms after it for the rest of the text
abbrev pub Stands : Bool → List ℕ → List Atom → List ℕ → Type 0
Stands fold user [] t = t ≡ []
Stands fold user (Character c ∷ p) t = (x : ℕ) × (rest : List ℕ) × (t ≡ x ∷ rest) × (folded_char fold c ≡ folded_char fold x) × Stands fold user p rest
Stands fold user (One ∷ p) t = (x : ℕ) × (rest : List ℕ) × (t ≡ x ∷ rest) × Stands fold user p rest
Stands fold user (User ∷ p) t = (name rest : List ℕ) × (t ≡ name ++ rest) × (folded fold user ≡ folded fold name) × Stands fold user p rest
Stands fold user (Any ∷ p) t = (skipped rest : List ℕ) × (t ≡ skipped ++ rest) × Stands fold user p rest

-- some text is stood for by both; it is asked of patterns without User, so the empty user speaks for all
abbrev pub Overlap : Bool → List Atom → List Atom → Type 0
Overlap fold p q = (t : List ℕ) × IsTrue (all_scalars t) × Stands fold [] p t × Stands fold [] q t

-- below a text that the pattern stands for: that text, a `/` unless the pattern ends in one, and any characters
abbrev pub IsBelow : Bool → List ℕ → List Atom → List ℕ → Type 0
IsBelow fold user p t = (upper rest : List ℕ) × Stands fold user p upper × (t ≡ upper ++ (if ends_in_slash p then rest else 47 ∷ rest))
