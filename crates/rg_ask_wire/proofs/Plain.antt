-- What is printed for an ask has no float, and nests a few levels.
use Rattle.std.proofs.Common.{◌≡◌, ℕ, ◌≤◌, false, [], ◌∷◌, refl, arith}
use Rattle.serde_json.specs.Data.{Data, depth}
use Rattle.serde_json.specs.Read.{max_depth}
use Rattle.serde_json.specs.Written.{has_float}
use Rattle.rg_base.specs.declared.numbers.Version.{Version}
use Rattle.rg_cmd.specs.declared.ask.AdminCommand.{AdminCommand}
use Rattle.rg_cmd.specs.declared.ask.AdminCommand.TheVariants.{PutDef, CreateService, UpdateService, DeleteService, CreatePolicy, UpdatePolicy, DeletePolicy, GetPolicy, ListPolicies, PutRole, DeleteRole, PutZone, DeleteZone, PutTags, DeleteTags, PutUser, DeleteUser, Download}
use Rattle.rg_cmd.specs.declared.ask.Ask.{Ask}
use Rattle.rg_cmd.specs.declared.state.ServiceRow.{ServiceRow}
use Rattle.rg_cmd.specs.declared.state.UserRow.{UserRow}
use Rattle.rg_json.proofs.Plain.{Plain, object_plain, text_plain, bool_plain, integer_plain, count_plain, option_plain, texts_plain}
use Rattle.rg_wire.proofs.Plain.{policy_plain}
use Rattle.rg_wire.specs.Names.{name_of as wire_name}
use Rattle.rg_wire.specs.declared.key.Key.{Key}
use Rattle.rg_wire.specs.declared.key.Key.TheVariants as key
use Rattle.rg_cmd_wire.proofs.Plain.{def_plain, role_plain, zone_plain, tag_row_plain}
use Rattle.rg_ask_wire.specs.Asks.{ask_data, ask_members, ask_name, command_data, field_members, service_data, service_members, user_data, user_members, version_data, word_data}

-- ---- services and users

service_plain : (s : ServiceRow) → Plain 1 (service_data s)
unfolding service_data
service_plain s = object_plain wire_name 0 1 (service_members s) (omega arith) (text_plain 0 s.name, (text_plain 0 s.def, (text_plain 0 s.tag_service, (bool_plain 0 s.fallback, tt))))

user_plain : (u : UserRow) → Plain 2 (user_data u)
unfolding user_data
user_plain u = object_plain wire_name 1 2 (user_members u) (omega arith) (text_plain 1 u.name, (texts_plain 1 u.groups (omega arith), tt))

-- ---- commands

deeper : (n m : ℕ) (d : Data) → n ≤ m → Plain n d → Plain m d
deeper n m d h p = (p.0, omega (arith, h, p.1))

word_plain : (n : ℕ) (c : AdminCommand) → Plain n (word_data c)
unfolding word_data
word_plain n c = (refl, omega arith)

-- a command with one field
one_plain : (c : AdminCommand) (k : Key) (d : Data) → field_members c ≡ (k, d) ∷ [] → Plain 6 d → Plain 7 (command_data c)
unfolding command_data
one_plain c k d fields p = rw fields (object_plain wire_name 6 7 ((key.Command, word_data c) ∷ (k, d) ∷ []) (omega arith) (word_plain 6 c, (p, tt)))

version_plain : (v : Version) → Plain 6 (version_data v)
version_plain v = count_plain 6 v.0

command_plain : (c : AdminCommand) → Plain 7 (command_data c)
unfolding command_data field_members
command_plain (PutDef def) = one_plain (PutDef def) _ _ refl (def_plain 6 def (omega arith))
command_plain (CreateService service) = one_plain (CreateService service) _ _ refl (deeper 1 6 _ (omega arith) (service_plain service))
command_plain (UpdateService service) = one_plain (UpdateService service) _ _ refl (deeper 1 6 _ (omega arith) (service_plain service))
command_plain (DeleteService name) = one_plain (DeleteService name) _ _ refl (text_plain 6 name)
command_plain (CreatePolicy policy) = one_plain (CreatePolicy policy) _ _ refl (policy_plain policy)
command_plain (UpdatePolicy policy) = one_plain (UpdatePolicy policy) _ _ refl (policy_plain policy)
command_plain (DeletePolicy id) = one_plain (DeletePolicy id) _ _ refl (integer_plain 6 id.0)
command_plain (GetPolicy id) = one_plain (GetPolicy id) _ _ refl (integer_plain 6 id.0)
command_plain (ListPolicies service) = one_plain (ListPolicies service) _ _ refl (text_plain 6 service)
command_plain (PutRole role) = one_plain (PutRole role) _ _ refl (deeper 2 6 _ (omega arith) (role_plain role))
command_plain (DeleteRole name) = one_plain (DeleteRole name) _ _ refl (text_plain 6 name)
command_plain (PutZone zone) = one_plain (PutZone zone) _ _ refl (zone_plain zone)
command_plain (DeleteZone name) = one_plain (DeleteZone name) _ _ refl (text_plain 6 name)
command_plain (PutTags id row) = object_plain wire_name 6 7 ((key.Command, word_data (PutTags id row)) ∷ field_members (PutTags id row)) (omega arith) (word_plain 6 (PutTags id row), (integer_plain 6 id, (deeper 4 6 _ (omega arith) (tag_row_plain row), tt)))
command_plain (DeleteTags id) = one_plain (DeleteTags id) _ _ refl (integer_plain 6 id)
command_plain (PutUser user) = one_plain (PutUser user) _ _ refl (deeper 2 6 _ (omega arith) (user_plain user))
command_plain (DeleteUser name) = one_plain (DeleteUser name) _ _ refl (text_plain 6 name)
command_plain (Download service policies_from tags_from roles_from) =
    object_plain wire_name 6 7 ((key.Command, word_data (Download service policies_from tags_from roles_from)) ∷ field_members (Download service policies_from tags_from roles_from)) (omega arith)
    (word_plain 6 (Download service policies_from tags_from roles_from), (text_plain 6 service, (option_plain 6 version_data policies_from version_plain, (option_plain 6 version_data tags_from version_plain, (option_plain 6 version_data roles_from version_plain, tt)))))

ask_plain : (a : Ask) → Plain 8 (ask_data a)
unfolding ask_data
ask_plain a = object_plain ask_name 7 8 (ask_members a) (omega arith) (text_plain 7 a.actor, (command_plain a.command, tt))

pub ask_has_no_float : (a : Ask) → has_float (ask_data a) ≡ false
ask_has_no_float a = (ask_plain a).0

pub ask_is_shallow : (a : Ask) → depth (ask_data a) ≤ max_depth
ask_is_shallow a = omega (arith, (ask_plain a).1)

pub ruleset asks = (ask_has_no_float, ask_is_shallow)
