-- What is asked of a role, by its place or where it isn't there.
use Rattle.std.proofs.Common.{Option, ◌&&◌, ◌||◌, ◌*◌, ◌^◌, length, ◌≡◌, ◌<◌, ℕ, Bool, false, List, Some, None, Contains, sym, ap, ◌∙◌, subst}
use Rattle.std.specs.Option.{is_some}
use Rattle.std.proofs.lemmas.Bool.{both_ways, false_from_ne_true}
use Rattle.rg_roles.specs.declared.row.RoleRow.{RoleRow}
use Rattle.rg_roles.specs.Chains.{Leads, here, there, leads}
use Rattle.rg_base.specs.Texts.{is_among}
use Rattle.rg_roles.specs.Members.{names_of, passes_at}
use Rattle.rg_roles.specs.Places.{IsExpanded, any_below, has, place_in, words_at}
use Rattle.rg_roles.proofs.Decided.{leads-Decides}
use Rattle.rg_roles.proofs.Lookup.{among_place, place_found}
use Rattle.rg_roles.proofs.Rows.{get_map, names_count}
use Rattle.rg_base.proofs.Lists.{among_from, Contains-same}

pub row_of : (rows : List RoleRow) (test : RoleRow → Bool) (role : List ℕ) → Leads rows test role → (row : RoleRow) × Contains rows row × (row.name ≡ role)
row_of rows test role (here _ row c same passes) = (row, c, same)
row_of rows test role (there _ other row c same names rest) = (row, c, same)

pub asked_there : (rows : List RoleRow) (reach : List (Option (List ℕ))) → IsExpanded rows reach → (role : List ℕ) (place : ℕ) → place_in (names_of rows) role ≡ Some place
    → (test : RoleRow → Bool)
    → (passes_at test rows place || any_below (λ k. has (words_at reach place) k && passes_at test rows k) (64 * length (words_at reach place))) ≡ leads rows test role
asked_there rows reach expanded role place at test =
    let found = place_found (names_of rows) role place at in
    (expanded place (subst (λ n. place < n) (names_count rows) found.0)).1 test ∙ ap (leads rows test) found.1

pub asked_few : (rows : List RoleRow) (reach : List (Option (List ℕ))) → IsExpanded rows reach → (role : List ℕ) (place : ℕ) → place_in (names_of rows) role ≡ Some place
    → length (words_at reach place) < 2 ^ 32
asked_few rows reach expanded role place at =
    (expanded place (subst (λ n. place < n) (names_count rows) (place_found (names_of rows) role place at).0)).0

pub asked_nowhere : (rows : List RoleRow) (role : List ℕ) → place_in (names_of rows) role ≡ None → (test : RoleRow → Bool) → false ≡ leads rows test role
asked_nowhere rows role none test = sym (false_from_ne_true (leads rows test role) (λ h.
    let row = row_of rows test role ((leads-Decides rows test role).0 h) in
    let c = row.1 in
    let named : Contains (names_of rows) row.0.name =
    (c.0, subst (λ n. c.0 < n) (sym (names_count rows)) c.1, get_map (λ (r : RoleRow). r.name) rows c.0 row.0 row.0.name c.1 c.2) in
    both_ways (is_among role (names_of rows)) (among_place (names_of rows) role ∙ ap is_some none)
    (among_from role (names_of rows) (Contains-same (names_of rows) row.0.name role row.2 named))))
