-- Patterns as lists of atoms, and what is made of one.
use Rattle.std.specs.Prelude.{ℕ, Bool, true, false, List, [], ◌∷◌, ◌++◌, if◌then◌else◌, nat_eq}
use Rattle.std.specs.List.{list_any}
use Rattle.std.specs.Str.{all_scalars}
use Rattle.rg_pattern.specs.declared.atoms.Atom.{Atom}
use Rattle.rg_pattern.specs.declared.atoms.Atom.TheVariants.{Character, One, Any, User}
use Rattle.rg_base.specs.Folding.{folded_char}

abbrev pub is_user : Atom → Bool
is_user User = true
is_user (Character c) = false
is_user One = false
is_user Any = false

-- some atom is the user's name
abbrev pub has_user : List Atom → Bool
has_user p = list_any is_user p

-- the characters among the atoms
abbrev pub characters : List Atom → List ℕ
characters [] = []
characters (Character c ∷ p) = c ∷ characters p
characters (One ∷ p) = characters p
characters (Any ∷ p) = characters p
characters (User ∷ p) = characters p

-- the characters are Unicode scalar values
abbrev pub are_scalars : List Atom → Bool
are_scalars p = all_scalars (characters p)

-- `/` is the character 47
abbrev pub is_slash : Atom → Bool
is_slash (Character c) = nat_eq c 47
is_slash One = false
is_slash Any = false
is_slash User = false

abbrev pub ends_in_slash : List Atom → Bool
ends_in_slash [] = false
ends_in_slash (a ∷ []) = is_slash a
ends_in_slash (a ∷ b ∷ p) = ends_in_slash (b ∷ p)

-- the pattern followed by Any where its last atom is `/`, else by `/` and Any
abbrev pub twin : List Atom → List Atom
twin p = p ++ (if ends_in_slash p then Any ∷ [] else Character 47 ∷ Any ∷ [])

-- the characters before the first atom that is no character, folded if asked
abbrev pub literal_prefix : Bool → List Atom → List ℕ
literal_prefix fold [] = []
literal_prefix fold (Character c ∷ p) = folded_char fold c ∷ literal_prefix fold p
literal_prefix fold (One ∷ p) = []
literal_prefix fold (Any ∷ p) = []
literal_prefix fold (User ∷ p) = []
