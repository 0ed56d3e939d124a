-- Literal prefixes: two patterns overlap only where the one begins the other.
use Rattle.std.proofs.Common.{◌≡◌, ◌⊎◌, ℕ, Bool, true, false, List, [], ◌∷◌, nat_eq, refl, ap, inl, inr, arith}
use Rattle.std.proofs.lemmas.Bool.{and_parts, and_from}
use Rattle.std.specs.List.{starts_with}
use Rattle.rg_pattern.specs.declared.atoms.Atom.{Atom}
use Rattle.rg_pattern.specs.declared.atoms.Atom.TheVariants.{Character, One, Any, User}
use Rattle.rg_pattern.specs.Atoms.{literal_prefix}
use Rattle.rg_base.specs.Folding.{folded_char}
use Rattle.rg_pattern.specs.Tests.{overlaps}

-- one of the texts begins with the other
abbrev pub Related : List ℕ → List ℕ → Type 0
Related a b = (starts_with nat_eq a b ≡ true) ⊎ (starts_with nat_eq b a ≡ true)

pub nat_eq-flip : (m n : ℕ) → nat_eq m n ≡ true → nat_eq n m ≡ true
nat_eq-flip m n h = grind arith

pub related_more : (c d : ℕ) (a b : List ℕ) → nat_eq c d ≡ true → Related a b → Related (c ∷ a) (d ∷ b)
related_more c d a b h r = elim r [
  | inl left ↦ inl (and_from (nat_eq d c) (starts_with nat_eq a b) (nat_eq-flip c d h) left)
  | inr right ↦ inr (and_from (nat_eq c d) (starts_with nat_eq b a) h right)
]

pub overlap_related : (fold : Bool) (p q : List Atom) → overlaps fold p q ≡ true → Related (literal_prefix fold p) (literal_prefix fold q)
overlap_related fold [] q h = inr refl
overlap_related fold (One ∷ p) q h = inr refl
overlap_related fold (Any ∷ p) q h = inr refl
overlap_related fold (User ∷ p) q h = inr refl
overlap_related fold (Character c ∷ p) [] h = inl refl
overlap_related fold (Character c ∷ p) (One ∷ q) h = inl refl
overlap_related fold (Character c ∷ p) (Any ∷ q) h = inl refl
overlap_related fold (Character c ∷ p) (User ∷ q) h = inl refl
overlap_related fold (Character c ∷ p) (Character d ∷ q) h =
    let k = and_parts (nat_eq (folded_char fold c) (folded_char fold d)) (overlaps fold p q) h in
    related_more (folded_char fold c) (folded_char fold d) (literal_prefix fold p) (literal_prefix fold q) k.0 (overlap_related fold p q k.1)
