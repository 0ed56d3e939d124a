-- What a state holds under a name or an id.
use Rattle.std.specs.Prelude.{ℕ, ℤ, Bool, false, List, [], Option, Some, None, option_and_then, if◌then◌else◌}
use Rattle.std.specs.List.{find}
use Rattle.std.specs.Ordering.{int_eq}
use Rattle.std.specs.Str.{bytes_eq}
use Rattle.rg_base.specs.Texts.{is_empty}
use Rattle.rg_defs.specs.Rules.{tag_name}
use Rattle.rg_defs.specs.declared.service_def.ServiceDef.{ServiceDef}
use Rattle.rg_policy.specs.declared.policy.Policy.{Policy}
use Rattle.rg_roles.specs.declared.row.RoleRow.{RoleRow}
use Rattle.rg_tags.specs.declared.row.TagRow.{TagRow}
use Rattle.rg_zone_rules.specs.declared.row.ZoneRow.{ZoneRow}
use Rattle.rg_cmd.specs.declared.state.ServiceRow.{ServiceRow}
use Rattle.rg_cmd.specs.declared.state.State.{State}
use Rattle.rg_cmd.specs.declared.state.UserRow.{UserRow}

-- ---- one of a list

abbrev pub is_service : List ℕ → ServiceRow → Bool
is_service name row = bytes_eq row.name name

abbrev pub is_def : List ℕ → ServiceDef → Bool
is_def name def = bytes_eq def.name name

abbrev pub is_role : List ℕ → RoleRow → Bool
is_role name row = bytes_eq row.name name

abbrev pub is_zone : List ℕ → ZoneRow → Bool
is_zone name row = bytes_eq row.name name

abbrev pub is_user : List ℕ → UserRow → Bool
is_user name row = bytes_eq row.name name

abbrev pub has_id : ℤ → Policy → Bool
has_id id policy = int_eq policy.id.0 id

abbrev pub has_row_id : ℤ → TagRow → Bool
has_row_id id row = int_eq row.id id

-- the policy is one of this service
abbrev pub is_of : List ℕ → Policy → Bool
is_of service policy = bytes_eq policy.service service

-- the tag row is one of this service
abbrev pub is_row_of : List ℕ → TagRow → Bool
is_row_of service row = bytes_eq row.service service

-- ---- the first of a name or an id

abbrev pub service_at : State → List ℕ → Option ServiceRow
service_at s name = find (is_service name) s.services.items

abbrev pub def_at : State → List ℕ → Option ServiceDef
def_at s name = find (is_def name) s.defs.items

abbrev pub policy_at : State → ℤ → Option Policy
policy_at s id = find (has_id id) s.policies.items

abbrev pub role_at : State → List ℕ → Option RoleRow
role_at s name = find (is_role name) s.roles.items

abbrev pub zone_at : State → List ℕ → Option ZoneRow
zone_at s name = find (is_zone name) s.zones.items

abbrev pub tag_row_at : State → ℤ → Option TagRow
tag_row_at s id = find (has_row_id id) s.tag_rows.items

abbrev pub user_at : State → List ℕ → Option UserRow
user_at s name = find (is_user name) s.users.items

-- ---- of a service

-- the definition of the service
abbrev pub def_of : State → List ℕ → Option ServiceDef
def_of s service = option_and_then (λ (row : ServiceRow). def_at s row.def) (service_at s service)

-- the service has this definition
abbrev pub has_def : List ℕ → Option ServiceRow → Bool
has_def def None = false
has_def def (Some row) = bytes_eq row.def def

-- there is such a service, and it is one for tags: its definition is named `tag`
abbrev pub is_tag_service : State → List ℕ → Bool
is_tag_service s service = has_def tag_name (service_at s service)

-- the name of the row's tag service, if it has one
abbrev pub tag_service_in : ServiceRow → Option (List ℕ)
tag_service_in row = if is_empty row.tag_service then None else Some row.tag_service

-- the name of the service's tag service, if it has one
abbrev pub tag_service_of : State → List ℕ → Option (List ℕ)
tag_service_of s service = option_and_then tag_service_in (service_at s service)

-- the service has this tag service
abbrev pub has_tag_service : List ℕ → Option (List ℕ) → Bool
has_tag_service name None = false
has_tag_service name (Some tag_service) = bytes_eq tag_service name

-- the policy is one of the tag service
abbrev pub is_of_tag : Option (List ℕ) → Policy → Bool
is_of_tag None policy = false
is_of_tag (Some tag_service) policy = is_of tag_service policy

-- ---- of an actor

abbrev pub groups_in : Option UserRow → List (List ℕ)
groups_in None = []
groups_in (Some row) = row.groups.items

-- the groups of the actor are those of its user row, none without one
abbrev pub groups_of : State → List ℕ → List (List ℕ)
groups_of s actor = groups_in (user_at s actor)
