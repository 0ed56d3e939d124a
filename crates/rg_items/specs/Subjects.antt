-- Whom lists of users, groups and roles name.
use Rattle.std.specs.Prelude.{ℕ, ◌&&◌, ◌||◌, not, codes, Bool, List}
use Rattle.std.specs.List.{list_any}
use Rattle.std.specs.Str.{bytes_eq}
use Rattle.rg_base.specs.Texts.{is_among, is_empty}
use Rattle.rg_policy.specs.declared.policy.Item.{Item}
use Rattle.rg_policy.specs.declared.request.AccessRequest.{AccessRequest}
use Rattle.rg_roles.specs.declared.row.RoleRow.{RoleRow}
use Rattle.rg_roles.specs.Holding.{holds}
use Rattle.rg_roles.specs.Members.{everybody}

-- the users, groups and roles that an item, a zone or a delegation lists
pub record Subjects : Type 0 where
  pub users : List (List ℕ)
  pub groups : List (List ℕ)
  pub roles : List (List ℕ)

-- the users have the user's name
abbrev pub names_user : List ℕ → List (List ℕ) → Bool
names_user user users = is_among user users

-- the groups have one of the user's, or `public`
abbrev pub names_group : List (List ℕ) → List (List ℕ) → Bool
names_group own groups = list_any (λ g. is_among g groups) own || is_among everybody groups

-- one of the roles holds the user
abbrev pub names_role : List RoleRow → List ℕ → List (List ℕ) → List (List ℕ) → Bool
names_role rows user own roles = list_any (λ role. holds rows role user own) roles

-- the subjects name the user, who has these groups: as a user, by a group, or by a role
abbrev pub names : List RoleRow → List ℕ → List (List ℕ) → Subjects → Bool
names rows user own s = names_user user s.users || (names_group own s.groups || names_role rows user own s.roles)

-- the word for every user
unfoldable pub user_word : List ℕ
user_word = codes "{USER}"

-- the word for the owner of the resource
unfoldable pub owner_word : List ℕ
owner_word = codes "{OWNER}"

-- the asker owns the resource; no owner is nobody
abbrev pub is_owner : AccessRequest → Bool
is_owner q = not (is_empty q.resource.owner) && bytes_eq q.resource.owner q.user

abbrev pub subjects_of : Item → Subjects
subjects_of item = record { users = item.users.items; groups = item.groups.items; roles = item.roles.items }

-- one of the item's subjects is the asker: its users have `{USER}`, or `{OWNER}` where the asker owns the resource, or its subjects name the asker
abbrev pub names_asker : List RoleRow → AccessRequest → Item → Bool
names_asker rows q item = is_among user_word item.users.items
    || ((is_among owner_word item.users.items && is_owner q) || names rows q.user q.groups.items (subjects_of item))
