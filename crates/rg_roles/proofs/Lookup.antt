-- The first place of a name.
use Rattle.std.proofs.Common.{◌≡◌, ◌<◌, ℕ, not, true, false, List, [], length, get_or, Some, None, ap, ◌∙◌}
use Rattle.std.specs.Option.{is_some}
use Rattle.std.specs.Str.{bytes_eq}
use Rattle.std.proofs.lemmas.List.Quantifiers.{position-Some}
use Rattle.std.proofs.lemmas.Slice.Eq.{bytes_eq-Decides}
use Rattle.rg_base.specs.Texts.{is_among}
use Rattle.rg_base.proofs.Names.{known, place_is}
use Rattle.rg_roles.specs.Faults.{is_absent}
use Rattle.rg_roles.specs.Places.{place_in}

pub among_place : (names : List (List ℕ)) (name : List ℕ) → is_among name names ≡ is_some (place_in names name)
among_place names name = known names name ∙ ap is_some (place_is names name)

pub absent : (names : List (List ℕ)) (name : List ℕ) → place_in names name ≡ None → is_absent names name ≡ true
absent names name e = ap not (among_place names name ∙ ap is_some e)

pub present : (names : List (List ℕ)) (name : List ℕ) (k : ℕ) → place_in names name ≡ Some k → is_absent names name ≡ false
present names name k e = ap not (among_place names name ∙ ap is_some e)

pub place_found : (names : List (List ℕ)) (name : List ℕ) (k : ℕ) → place_in names name ≡ Some k → (k < length names) × (get_or names k [] ≡ name)
place_found names name k e =
    let f = position-Some (λ n. bytes_eq n name) names k [] e in
    (f.0, (bytes_eq-Decides (get_or names k []) name).0 f.1)
