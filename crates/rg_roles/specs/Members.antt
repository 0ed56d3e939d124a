-- What a row says by itself, and where rows stand.
use Rattle.std.specs.Prelude.{ℕ, codes, ◌||◌, Bool, false, List, [], map, slice_get, slice_index_or}
use Rattle.std.specs.List.{list_any}
use Rattle.std.specs.Option.{option_map_or}
use Rattle.rg_base.specs.Texts.{is_among}
use Rattle.rg_roles.specs.declared.row.RoleRow.{RoleRow}

-- the group of which every user is a member
unfoldable pub everybody : List ℕ
everybody = codes "public"

-- the row itself names the user, one of the groups, or the group `public`
abbrev pub names_asker : List ℕ → List (List ℕ) → RoleRow → Bool
names_asker user groups row = is_among user row.users.items
    || (list_any (λ g. is_among g row.groups.items) groups || is_among everybody row.groups.items)

-- the row names the role
abbrev pub names_role : List ℕ → RoleRow → Bool
names_role role row = is_among role row.roles.items

-- the names of the rows, in order
abbrev pub names_of : List RoleRow → List (List ℕ)
names_of rows = map (λ (row : RoleRow). row.name) rows

-- the name of the row at this place
abbrev pub name_at : List RoleRow → ℕ → List ℕ
name_at rows place = slice_index_or (names_of rows) place []

-- the roles that the row at this place names
abbrev pub roles_at : List RoleRow → ℕ → List (List ℕ)
roles_at rows place = slice_index_or (map (λ (row : RoleRow). row.roles.items) rows) place []

-- there is a row at this place, and it passes
abbrev pub passes_at : (RoleRow → Bool) → List RoleRow → ℕ → Bool
passes_at test rows place = option_map_or test (slice_get rows place) false
