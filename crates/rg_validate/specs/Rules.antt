-- The rules of each command, in order, and the first that fails. To be read first; then Definitions, Policies with Twins, Roles, Zones, Tags, Users, and Valid.
use Rattle.std.specs.Prelude.{ℕ, ℤ, ◌^◌, nat_lt, Bool, true, false, List, [], ◌∷◌, ◌++◌, Option, Some, None, if◌then◌else◌}
use Rattle.std.specs.List.{list_any}
use Rattle.rg_base.specs.Texts.{is_name}
use Rattle.rg_defs.specs.declared.service_def.ServiceDef.{ServiceDef}
use Rattle.rg_tags.specs.Rules.{tags_fit}
use Rattle.rg_cmd.specs.Lookups.{def_of, has_id, has_row_id, is_def, is_role, is_service, is_user, is_zone}
use Rattle.rg_cmd.specs.declared.ask.AdminCommand.{AdminCommand}
use Rattle.rg_cmd.specs.declared.ask.AdminCommand.TheVariants.{PutDef, CreateService, UpdateService, DeleteService, CreatePolicy, UpdatePolicy, DeletePolicy, GetPolicy, ListPolicies, PutRole, DeleteRole, PutZone, DeleteZone, PutTags, DeleteTags, PutUser, DeleteUser, Download}
use Rattle.rg_cmd.specs.declared.ask.Ask.{Ask}
use Rattle.rg_cmd.specs.declared.rule.Rule.{Rule}
use Rattle.rg_cmd.specs.declared.rule.Rule.TheVariants.{L1, E1, E2, E3, E4, E5, E6, E7, C1, C2, C3, C4, C5, O1, O2, O3, O4, Z1, Z2, Z3, Z4, Z5, Z6, Z7, Z8, G1, G2, G3, G4, U1}
use Rattle.rg_cmd.specs.declared.state.State.{State}
use Rattle.rg_validate.specs.Definitions.{definition_rules, definition_suits, keeps_definition, service_is_unused, service_name_is_new, tag_service_fits}
use Rattle.rg_validate.specs.Failing.{Tested, first_failing}
use Rattle.rg_validate.specs.Policies.{policy_rules}
use Rattle.rg_validate.specs.Roles.{goes_in_no_circle, member_roles_exist, role_is_unused}
use Rattle.rg_validate.specs.Tags.{row_id_fits, tagged_resources_fit, tagged_service_fits}
use Rattle.rg_validate.specs.Users.{user_fits}
use Rattle.rg_validate.specs.Zones.{zone_is_apart, zone_is_unused, zone_keeps_policies, zone_levels_suit, zone_services_fit, zone_subjects_exist, zone_values_suit}

-- ---- existence

-- E1: there is a service of this name
abbrev pub service_exists : State → List ℕ → Tested
service_exists s name = (E1, list_any (is_service name) s.services.items)

-- E2: there is a policy of this id
abbrev pub policy_exists : State → ℤ → Tested
policy_exists s id = (E2, list_any (has_id id) s.policies.items)

-- E3: there is a definition of this name
abbrev pub definition_exists : State → List ℕ → Tested
definition_exists s name = (E3, list_any (is_def name) s.defs.items)

-- E4: there is a role of this name
abbrev pub role_exists : State → List ℕ → Tested
role_exists s name = (E4, list_any (is_role name) s.roles.items)

-- E5: there is a zone of this name
abbrev pub zone_exists : State → List ℕ → Tested
zone_exists s name = (E5, list_any (is_zone name) s.zones.items)

-- E6: there is a tag row of this id
abbrev pub tag_row_exists : State → ℤ → Tested
tag_row_exists s id = (E6, list_any (has_row_id id) s.tag_rows.items)

-- E7: there is a user of this name
abbrev pub user_exists : State → List ℕ → Tested
user_exists s name = (E7, list_any (is_user name) s.users.items)

-- ---- the table

-- what is asked under the definition of a service, which is there where the service is
abbrev pub rules_under : Option ServiceDef → (ServiceDef → List Tested) → List Tested
rules_under None rules = []
rules_under (Some def) rules = rules def

-- what is asked of a command, in order, but for L1 and the rules of authority
abbrev pub command_rules : State → AdminCommand → List Tested
command_rules s (PutDef def) = definition_rules def ++ (C1, definition_suits s def) ∷ []
command_rules s (CreateService row) = definition_exists s row.def ∷ (C2, service_name_is_new s row.name) ∷ (C3, tag_service_fits s row) ∷ []
command_rules s (UpdateService row) = service_exists s row.name ∷ definition_exists s row.def ∷ (C3, tag_service_fits s row) ∷ (C4, keeps_definition s row) ∷ []
command_rules s (DeleteService name) = service_exists s name ∷ (C5, service_is_unused s name) ∷ []
command_rules s (CreatePolicy p) = service_exists s p.service ∷ rules_under (def_of s p.service) (policy_rules s None p)
command_rules s (UpdatePolicy p) = policy_exists s p.id.0 ∷ service_exists s p.service ∷ rules_under (def_of s p.service) (policy_rules s (Some p.id) p)
command_rules s (DeletePolicy id) = policy_exists s id.0 ∷ []
command_rules s (GetPolicy id) = policy_exists s id.0 ∷ []
command_rules s (ListPolicies service) = service_exists s service ∷ []
command_rules s (PutRole row) = (O1, is_name row.name) ∷ (O2, member_roles_exist s row) ∷ (O3, goes_in_no_circle s row) ∷ []
command_rules s (DeleteRole name) = role_exists s name ∷ (O4, role_is_unused s name) ∷ []
command_rules s (PutZone zone) = (Z1, is_name zone.name) ∷ (Z2, zone_services_fit s zone) ∷ (Z3, zone_levels_suit s zone) ∷ (Z4, zone_values_suit zone) ∷ (Z5, zone_subjects_exist s zone) ∷ (Z6, zone_is_apart s zone) ∷ (Z7, zone_keeps_policies s zone) ∷ []
command_rules s (DeleteZone name) = zone_exists s name ∷ (Z8, zone_is_unused s name) ∷ []
command_rules s (PutTags id row) = service_exists s row.service ∷ (G1, tagged_service_fits s row) ∷ (G2, tagged_resources_fit s row) ∷ (G3, tags_fit row.tags.items) ∷ (G4, row_id_fits s id row) ∷ []
command_rules s (DeleteTags id) = tag_row_exists s id ∷ []
command_rules s (PutUser row) = (U1, user_fits row) ∷ []
command_rules s (DeleteUser name) = user_exists s name ∷ []
command_rules s (Download service policies_from tags_from roles_from) = service_exists s service ∷ []

-- the commands of which L1 isn't asked
abbrev pub only_reads : AdminCommand → Bool
only_reads (GetPolicy id) = true
only_reads (ListPolicies service) = true
only_reads (Download service policies_from tags_from roles_from) = true
only_reads command = false

-- L1: the count of entries is less than 2^62; it is asked of every command that doesn't only read
abbrev pub limit_rules : State → AdminCommand → List Tested
limit_rules s command = if only_reads command then [] else (L1, nat_lt s.count (2 ^ 62)) ∷ []

-- the first rule that fails, up to the rules of authority: L1 where it is asked, then those of the command
abbrev pub first_fault : State → Ask → Option Rule
first_fault s ask = first_failing (limit_rules s ask.command ++ command_rules s ask.command)
