-- The atoms of a written value.
use Rattle.std.specs.Prelude.{ℕ, zero, suc, Bool, false, ◌&&◌, not, List, [], ◌∷◌, if◌then◌else◌, nat_eq, is_some}
use Rattle.std.specs.List.{flat_map}
use Rattle.rg_base.specs.Texts.{is_name}
use Rattle.rg_pattern.specs.declared.atoms.Atom.{Atom}
use Rattle.rg_pattern.specs.declared.atoms.Atom.TheVariants.{Character, One, Any, User}
use Rattle.rg_pattern.specs.Atoms.{has_user, twin}
use Rattle.rg_pattern.specs.Tests.{strip_prefix}

-- `{USER}`
abbrev pub user_mark : List ℕ
user_mark = 123 ∷ 85 ∷ 83 ∷ 69 ∷ 82 ∷ 125 ∷ []

-- where wildcards are on, `*` gives Any and `?` gives One; every other character gives itself
abbrev pub atom_of : Bool → ℕ → Atom
atom_of wild c = if wild && nat_eq c 42 then Any else if wild && nat_eq c 63 then One else Character c

-- the atoms of a text, past the first skip characters, which belong to a mark that was read
abbrev pub atoms_past : Bool → ℕ → List ℕ → List Atom
atoms_past wild skip [] = []
atoms_past wild (suc skip) (c ∷ t) = atoms_past wild skip t
atoms_past wild zero (c ∷ t) = if is_some (strip_prefix false user_mark (c ∷ t)) then User ∷ atoms_past wild 5 t else atom_of wild c ∷ atoms_past wild 0 t

-- read from the left: `{USER}` gives User, any other character the atom of its own
abbrev pub atoms_of : Bool → List ℕ → List Atom
atoms_of wild t = atoms_past wild 0 t

-- a written value that is a pattern without `{USER}`: it has 1 to 256 characters
abbrev pub value_fits : List ℕ → Bool
value_fits t = is_name t && not (has_user (atoms_of false t))

-- the pattern, and where it is recursive its twin
abbrev pub with_twin : Bool → List Atom → List (List Atom)
with_twin recursive p = p ∷ (if recursive then twin p ∷ [] else [])

-- the patterns of written values
abbrev pub value_patterns : Bool → Bool → List (List ℕ) → List (List Atom)
value_patterns wild recursive values = flat_map (λ t. with_twin recursive (atoms_of wild t)) values
