-- What a pattern's laws say, for the proofs that are handed them.
use Rattle.std.proofs.Common.{◌≡◌, ℕ, Bool, true, List, IsTrue, nat_eq}
use Rattle.std.specs.List.{starts_with}
use Rattle.rg_base.specs.Folding.{folded}
use Rattle.rg_pattern.specs.declared.atoms.Atom.{Atom}
use Rattle.rg_pattern.specs.Atoms.{literal_prefix, twin}
use Rattle.rg_pattern.specs.Standing.{Stands}
use Rattle.rg_pattern.specs.Tests.{stands}

abbrev pub StandsLaw : Type 0
StandsLaw = (fold : Bool) (user : List ℕ) (p : List Atom) (t : List ℕ) → (IsTrue (stands fold user p t) → Stands fold user p t) × (Stands fold user p t → IsTrue (stands fold user p t))

abbrev pub PrefixLaw : Type 0
PrefixLaw = (fold : Bool) (user : List ℕ) (p : List Atom) (t : List ℕ) → Stands fold user p t → starts_with nat_eq (folded fold t) (literal_prefix fold p) ≡ true

abbrev pub TwinLaw : Type 0
TwinLaw = (fold : Bool) (user : List ℕ) (p : List Atom) (t : List ℕ) → Stands fold user (twin p) t → starts_with nat_eq (folded fold t) (literal_prefix fold p) ≡ true
