-- When a role holds a user.
use Rattle.std.specs.Prelude.{ℕ, Bool, List, Contains}
use Rattle.rg_roles.specs.declared.row.RoleRow.{RoleRow}
use Rattle.rg_roles.specs.Chains.{Leads, leads}
use Rattle.rg_roles.specs.Members.{everybody, names_asker}

-- the role names the user, one of the user's groups, or the group `public`, or it names a role that holds the user
abbrev pub Holds : List RoleRow → List ℕ → List ℕ → List (List ℕ) → Type 0
Holds rows role user groups = Leads rows (names_asker user groups) role

-- the test that decides it
abbrev pub holds : List RoleRow → List ℕ → List ℕ → List (List ℕ) → Bool
holds rows role user groups = leads rows (names_asker user groups) role

-- the four cases keep within P
pub record IsClosed (rows : List RoleRow) (user : List ℕ) (groups : List (List ℕ)) (P : List ℕ → Type 0) : Type 0 where
  pub by_user : (row : RoleRow) → Contains rows row → Contains row.users.items user → P row.name
  pub by_group : (row : RoleRow) (group : List ℕ) → Contains rows row → Contains groups group → Contains row.groups.items group → P row.name
  pub by_public : (row : RoleRow) → Contains rows row → Contains row.groups.items everybody → P row.name
  pub by_role : (row : RoleRow) (role : List ℕ) → Contains rows row → Contains row.roles.items role → P role → P row.name
