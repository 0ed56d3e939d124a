-- Tests that compute, and that decide standing for, covering and overlap.
use Rattle.std.specs.Prelude.{ℕ, Bool, true, false, ◌&&◌, ◌||◌, List, [], ◌∷◌, Option, Some, None, if◌then◌else◌, nat_eq}
use Rattle.rg_pattern.specs.declared.atoms.Atom.{Atom}
use Rattle.rg_pattern.specs.declared.atoms.Atom.TheVariants.{Character, One, Any, User}
use Rattle.rg_base.specs.Folding.{folded_char}

-- two characters are the same, folded if asked
abbrev pub same_char : Bool → ℕ → ℕ → Bool
same_char fold c x = nat_eq (folded_char fold c) (folded_char fold x)

-- what follows the prefix in a text that begins with it
abbrev pub strip_prefix : Bool → List ℕ → List ℕ → Option (List ℕ)
strip_prefix fold [] t = Some t
strip_prefix fold (c ∷ prefix) [] = None
strip_prefix fold (c ∷ prefix) (x ∷ t) = if same_char fold c x then strip_prefix fold prefix t else None

-- some suffix passes, the whole list included
abbrev pub some_suffix : {X : Type 0} → (List X → Bool) → List X → Bool
some_suffix f [] = f []
some_suffix f (x ∷ t) = f (x ∷ t) || some_suffix f t

-- there is a text, and it passes
abbrev pub passes : (List ℕ → Bool) → Option (List ℕ) → Bool
passes f None = false
passes f (Some t) = f t

-- the pattern stands for the text
abbrev pub stands : Bool → List ℕ → List Atom → List ℕ → Bool
stands fold user [] [] = true
stands fold user [] (x ∷ t) = false
stands fold user (Character c ∷ p) [] = false
stands fold user (Character c ∷ p) (x ∷ t) = same_char fold c x && stands fold user p t
stands fold user (One ∷ p) [] = false
stands fold user (One ∷ p) (x ∷ t) = stands fold user p t
stands fold user (User ∷ p) t = passes (stands fold user p) (strip_prefix fold user t)
stands fold user (Any ∷ p) t = some_suffix (stands fold user p) t

-- the first atom, which is not Any, covers the second
abbrev pub covers_atom : Bool → Atom → Atom → Bool
covers_atom fold One One = true
covers_atom fold One (Character d) = true
covers_atom fold (Character c) (Character d) = same_char fold c d
covers_atom fold User User = true
covers_atom fold a b = false

-- the first pattern covers the second
abbrev pub covers : Bool → List Atom → List Atom → Bool
covers fold [] [] = true
covers fold [] (b ∷ p) = false
covers fold (Any ∷ q) p = some_suffix (covers fold q) p
covers fold (a ∷ q) [] = false
covers fold (a ∷ q) (b ∷ p) = covers_atom fold a b && covers fold q p

abbrev pub is_any : Atom → Bool
is_any Any = true
is_any (Character c) = false
is_any One = false
is_any User = false

-- some character is stood for by both atoms, of which neither is Any
abbrev pub share_char : Bool → Atom → Atom → Bool
share_char fold (Character c) (Character d) = same_char fold c d
share_char fold (Character c) One = true
share_char fold One (Character d) = true
share_char fold One One = true
share_char fold a b = false

-- the table over the pairs of rests: a cell, from the cells below it, right of it, and past both first atoms
abbrev pub cell : Bool → Atom → Atom → Bool → Bool → Bool → Bool
cell fold a b below right diagonal = if is_any a || is_any b then below || right else share_char fold a b && diagonal

-- the row of an atom, from the row below it
abbrev pub row : Bool → Atom → (List Atom → Bool) → List Atom → Bool
row fold a below [] = is_any a && below []
row fold a below (b ∷ q) = cell fold a b (below (b ∷ q)) (row fold a below q) (below q)

abbrev pub all_any : List Atom → Bool
all_any [] = true
all_any (b ∷ q) = is_any b && all_any q

-- the patterns overlap, where neither has User
abbrev pub overlaps : Bool → List Atom → List Atom → Bool
overlaps fold [] q = all_any q
overlaps fold (a ∷ p) q = row fold a (overlaps fold p) q
