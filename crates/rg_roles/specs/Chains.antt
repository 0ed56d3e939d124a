-- Chains of roles, each of which names the next.
use Rattle.std.specs.Prelude.{ℕ, zero, suc, ◌≡◌, ◌&&◌, ◌||◌, Bool, false, List, length, Contains, IsTrue}
use Rattle.std.specs.List.{list_any}
use Rattle.std.specs.Str.{bytes_eq}
use Rattle.rg_roles.specs.declared.row.RoleRow.{RoleRow}

-- a row of this name passes, or names a role from which a chain leads to a row that passes
pub data Leads (rows : List RoleRow) (test : RoleRow → Bool) : List ℕ → Type 0 where
  here : (role : List ℕ) (row : RoleRow) → Contains rows row → row.name ≡ role → IsTrue (test row) → Leads rows test role
  there : (role other : List ℕ) (row : RoleRow) → Contains rows row → row.name ≡ role → Contains row.roles.items other → Leads rows test other → Leads rows test role

-- the same by a chain of at most so many roles
abbrev pub leads_within : ℕ → List RoleRow → (RoleRow → Bool) → List ℕ → Bool
leads_within zero rows test role = false
leads_within (suc n) rows test role =
    list_any (λ (row : RoleRow). bytes_eq row.name role && (test row || list_any (leads_within n rows test) row.roles.items)) rows

-- as many roles as there are rows are always enough
unfoldable pub leads : List RoleRow → (RoleRow → Bool) → List ℕ → Bool
leads rows test role = leads_within (length rows) rows test role
