-- What is at fault in a list of rows.
use Rattle.std.specs.Prelude.{Contains, ℕ, ◌≡◌, ◌<◌, ◌⊎◌, not, Bool, true, false, List, length, take, Option, Some, option_map}
use Rattle.std.specs.List.{list_any}
use Rattle.std.specs.Option.{option_or}
use Rattle.std.specs.Str.{bytes_eq}
use Rattle.rg_roles.specs.declared.fault.RoleFault.{RoleFault}
use Rattle.rg_roles.specs.declared.fault.RoleFault.TheVariants.{Duplicate, Unknown, Cycle, NoMemory}
use Rattle.rg_roles.specs.declared.row.RoleRow.{RoleRow}
use Rattle.rg_roles.specs.Chains.{Leads, leads}
use Rattle.rg_base.specs.Names.{first_place}
use Rattle.rg_base.specs.Texts.{all_distinct, is_among}
use Rattle.rg_roles.specs.Members.{names_of, name_at, roles_at, names_role}

-- a row before this place has the same name
abbrev pub repeats : List RoleRow → ℕ → Bool
repeats rows place = is_among (name_at rows place) (take place (names_of rows))

-- no row has this name
abbrev pub is_absent : List (List ℕ) → List ℕ → Bool
is_absent names role = not (is_among role names)

-- the row at this place names a role that isn't there
abbrev pub names_absent : List RoleRow → ℕ → Bool
names_absent rows place = list_any (is_absent (names_of rows)) (roles_at rows place)

-- a chain of roles leads from the row at this place to one that names it
abbrev pub is_on_cycle : List RoleRow → ℕ → Bool
is_on_cycle rows place = leads rows (names_role (name_at rows place)) (name_at rows place)

-- the least place of a row that passes
abbrev pub first_row : (List RoleRow → ℕ → Bool) → List RoleRow → Option ℕ
first_row test rows = first_place (test rows) (length rows)

-- a repeated name goes before a role that isn't there, and that before a cycle
unfoldable pub fault_of : List RoleRow → Option RoleFault
fault_of rows = option_or (option_map Duplicate (first_row repeats rows))
    (option_or (option_map Unknown (first_row names_absent rows)) (option_map Cycle (first_row is_on_cycle rows)))

-- memory was refused, or this is the fault that was found
abbrev pub IsRefusal : Option RoleFault → RoleFault → Type 0
IsRefusal found fault = (fault ≡ NoMemory) ⊎ (found ≡ Some fault)

-- no row passes
abbrev pub NoRow : (List RoleRow → ℕ → Bool) → List RoleRow → Type 0
NoRow test rows = (place : ℕ) → place < length rows → test rows place ≡ false

-- the row at this place passes, and none before it does
pub record IsFirstRow (test : List RoleRow → ℕ → Bool) (rows : List RoleRow) (place : ℕ) : Type 0 where
  pub within : place < length rows
  pub passes : test rows place ≡ true
  pub first : (before : ℕ) → before < place → test rows before ≡ false

-- no two rows have one name
abbrev pub have_own_names : List RoleRow → Bool
have_own_names rows = all_distinct (λ (a b : RoleRow). bytes_eq b.name a.name) rows

-- each role that the row names is there
abbrev pub NamesThere : List RoleRow → RoleRow → Type 0
NamesThere rows row = (role : List ℕ) → Contains row.roles.items role → Contains (names_of rows) role

-- no chain leads from the role to a row that names it
abbrev pub IsApart : List RoleRow → List ℕ → Type 0
IsApart rows role = ¬ (Leads rows (names_role role) role)

-- the rows have no fault, without their places
pub record AreSound (rows : List RoleRow) : Type 0 where
  pub distinct : have_own_names rows ≡ true
  pub named : (row : RoleRow) → Contains rows row → NamesThere rows row
  pub apart : (role : List ℕ) → IsApart rows role

-- the row was put among the rows: where it replaced one, that had its name
pub record IsPut (rows : List RoleRow) (row : RoleRow) (new : List RoleRow) : Type 0 where
  pub distinct : have_own_names new ≡ true
  pub others : (other : RoleRow) → Contains new other → (other ≡ row) ⊎ Contains rows other
  pub names : (name : List ℕ) → Contains (names_of rows) name → Contains (names_of new) name
