-- The rules of roles.
use Rattle.std.specs.Prelude.{ℕ, ◌&&◌, ◌||◌, not, Bool, List}
use Rattle.std.specs.List.{list_all, list_any}
use Rattle.rg_base.specs.Texts.{is_among}
use Rattle.rg_policy.specs.Kinds.{item_lists}
use Rattle.rg_policy.specs.declared.policy.Item.{Item}
use Rattle.rg_policy.specs.declared.policy.Policy.{Policy}
use Rattle.rg_roles.specs.Chains.{leads}
use Rattle.rg_roles.specs.Members.{names_of, names_role}
use Rattle.rg_roles.specs.declared.row.RoleRow.{RoleRow}
use Rattle.rg_zone_rules.specs.declared.row.ZoneRow.{ZoneRow}
use Rattle.rg_cmd.specs.Lists.{put}
use Rattle.rg_cmd.specs.Lookups.{is_role}
use Rattle.rg_cmd.specs.declared.state.State.{State}

-- the roles with this one in its place
abbrev pub roles_with : State → RoleRow → List RoleRow
roles_with s row = put (is_role row.name) row s.roles.items

-- O2: each role that it names exists, itself included
abbrev pub member_roles_exist : State → RoleRow → Bool
member_roles_exist s row = list_all (λ name. is_among name (names_of (roles_with s row))) row.roles.items

-- a chain of roles leads from the row to one that names it
abbrev pub holds_itself : List RoleRow → RoleRow → Bool
holds_itself rows row = leads rows (names_role row.name) row.name

-- O3: with this role in its place no role holds itself by a chain
unfoldable pub goes_in_no_circle : State → RoleRow → Bool
goes_in_no_circle s row = not (list_any (holds_itself (roles_with s row)) (roles_with s row))

-- another role names this one
abbrev pub other_names_role : List ℕ → RoleRow → Bool
other_names_role name row = not (is_role name row) && names_role name row

-- an item of the policy names the role
abbrev pub policy_names_role : List ℕ → Policy → Bool
policy_names_role name p = list_any (list_any (λ (i : Item). is_among name i.roles.items)) (item_lists p)

-- the admins or the auditors of the zone name the role
abbrev pub zone_names_role : List ℕ → ZoneRow → Bool
zone_names_role name zone = is_among name zone.admins.roles.items || is_among name zone.auditors.roles.items

-- O4: no other role, policy or zone names the role
abbrev pub role_is_unused : State → List ℕ → Bool
role_is_unused s name = not (list_any (other_names_role name) s.roles.items)
    && (not (list_any (policy_names_role name) s.policies.items)
    && not (list_any (zone_names_role name) s.zones.items))
