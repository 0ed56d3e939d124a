-- An ask that was printed is read again as itself.
use Rattle.std.proofs.Common.{◌≡◌, ℕ, ℤ, pos, ◌≤◌, List, [], ◌∷◌, Some, None, Ok, true, false, true≢false, unwrap_or, option_and_then, refl, sym, ap, ap₂, subst, ◌∙◌, arith}
use Rattle.serde_json.specs.Data.{Data, depth, no_members}
use Rattle.serde_json.specs.Find.{as_str, get}
use Rattle.serde_json.specs.Read.{max_depth}
use Rattle.serde_json.specs.Written.{compact_text, has_float}
use Rattle.rg_base.specs.declared.numbers.PolicyId.{PolicyId}
use Rattle.rg_cmd.specs.declared.ask.AdminCommand.{AdminCommand}
use Rattle.rg_cmd.specs.declared.ask.AdminCommand.TheVariants.{PutDef, CreateService, UpdateService, DeleteService, CreatePolicy, UpdatePolicy, DeletePolicy, GetPolicy, ListPolicies, PutRole, DeleteRole, PutZone, DeleteZone, PutTags, DeleteTags, PutUser, DeleteUser, Download}
use Rattle.rg_cmd.specs.declared.ask.Ask.{Ask}
use Rattle.rg_cmd.specs.declared.state.ServiceRow.{ServiceRow}
use Rattle.rg_cmd.specs.declared.state.UserRow.{UserRow}
use Rattle.rg_defs.specs.declared.service_def.ServiceDef.{ServiceDef}
use Rattle.rg_policy.specs.declared.policy.Policy.{Policy}
use Rattle.rg_roles.specs.declared.row.RoleRow.{RoleRow}
use Rattle.rg_tags.specs.declared.row.TagRow.{TagRow}
use Rattle.rg_zone_rules.specs.declared.row.ZoneRow.{ZoneRow}
use Rattle.rg_json.specs.declared.shape.Need.TheVariants.{Must}
use Rattle.rg_json.specs.Faults.{fault_of}
use Rattle.rg_json.specs.Fields.{field, text_at, unless_null, within}
use Rattle.rg_json.specs.Own.{IsInteger, IsText}
use Rattle.rg_json.specs.Printing.{text_data, integer_data}
use Rattle.rg_json.specs.Shape.{text, integer, anything}
use Rattle.rg_json.specs.Reading.{unless_fault}
use Rattle.rg_json.specs.Texts.{data_of}
use Rattle.rg_json.proofs.Again.{get_with, text_again, integer_again}
use Rattle.rg_json.proofs.Right.{first_right, head, text_right, integer_right}
use Rattle.rg_wire.specs.declared.key.Key.{Key}
use Rattle.rg_wire.specs.declared.key.Key.TheVariants as key
use Rattle.rg_wire.specs.Names.{name_of}
use Rattle.rg_wire.specs.Own.{IsPolicy}
use Rattle.rg_wire.specs.Printing.{policy_data}
use Rattle.rg_wire.specs.Records.{policy_of, role_of, service_def_of, tag_row_of, zone_of}
use Rattle.rg_wire.specs.Shapes.{policy_shape, role_shape, service_shape, service_def_shape, tag_row_shape, user_shape, zone_shape}
use Rattle.rg_wire.proofs.Policies.{policy_again}
use Rattle.rg_wire.proofs.Right.{policy_right}
use Rattle.rg_cmd_wire.specs.Commands.{command_of, command_shape}
use Rattle.rg_cmd_wire.specs.Naming.{named, word_of}
use Rattle.rg_cmd_wire.specs.PrintedRows.{def_data, role_data, tag_row_data, zone_data}
use Rattle.rg_cmd_wire.specs.Reading.{after_word, reading_in, reading_named, word_at, word_shape}
use Rattle.rg_cmd_wire.specs.Rows.{service_of, user_of}
use Rattle.rg_ask_wire.specs.Asks.{ask_data, ask_members, ask_name, ask_text, command_data, field_members, service_data, user_data, word_data, word_of_command}
use Rattle.rg_ask_wire.specs.Keeping.{is_keeping}
use Rattle.rg_ask_wire.specs.KeyOrder.{IsCommandInOrder, IsDef, IsInKeyOrder, IsRole, IsService, IsTagRow, IsUser, IsZone}
use Rattle.rg_ask_wire.specs.Reading.{ask_in, ask_reading, ask_shape, ask_unless, with_command}
use Rattle.rg_ask_wire.specs.declared.key.AskKey.TheVariants as own
use Rattle.rg_ask_wire.proofs.Plain.{ask_has_no_float, ask_is_shallow}
use Rattle.rg_ask_wire.proofs.Right.{def_right, role_right, service_right, tag_row_right, user_right, zone_right}
use Rattle.rg_ask_wire.proofs.Rows.{def_again, role_again, service_again, tag_row_again, user_again, within_again, zone_again}

-- ---- the name of a command

abbrev IsNamed : AdminCommand → Type 0
IsNamed c = get (name_of key.Command) (command_data c) ≡ Some (word_data c)

word_right : (c : AdminCommand) → IsNamed c → fault_of word_shape (command_data c) ≡ None
unfolding word_data command_data
word_right c found = first_right _ _ (head (name_of key.Command) Must text (word_data c) (command_data c) found refl refl) refl

word_so : (c : AdminCommand) → IsNamed c → word_at (command_data c) ≡ word_of_command c
unfolding word_at word_data field
word_so c found = ap (λ o. unwrap_or (option_and_then as_str (option_and_then unless_null o)) []) found

-- ---- commands

-- what is to be shown of a command: it has its name, and is read from its fields under that name
record IsRead (c : AdminCommand) : Type 0 where
  pub found : IsNamed c
  pub next : reading_named (Some (command_data c)) (named (word_of_command c)) ≡ Ok c

reads : (c : AdminCommand) → IsRead c → reading_in (Some (command_data c)) ≡ Ok c
reads c is =
    ap (λ fault. after_word (Some (command_data c)) (unless_fault (word_at (command_data c)) fault)) (word_right c is.found)
    ∙ ap (λ w. reading_named (Some (command_data c)) (named w)) (word_so c is.found)
    ∙ is.next

pub def_there : (x : ServiceDef) → unless_null (def_data x) ≡ Some (def_data x)
unfolding def_data
def_there x = refl

service_there : (x : ServiceRow) → unless_null (service_data x) ≡ Some (service_data x)
unfolding service_data
service_there x = refl

user_there : (x : UserRow) → unless_null (user_data x) ≡ Some (user_data x)
unfolding user_data
user_there x = refl

pub policy_there : (x : Policy) → unless_null (policy_data x) ≡ Some (policy_data x)
unfolding policy_data
policy_there x = refl

role_there : (x : RoleRow) → unless_null (role_data x) ≡ Some (role_data x)
unfolding role_data
role_there x = refl

zone_there : (x : ZoneRow) → unless_null (zone_data x) ≡ Some (zone_data x)
unfolding zone_data
zone_there x = refl

pub tag_row_there : (x : TagRow) → unless_null (tag_row_data x) ≡ Some (tag_row_data x)
unfolding tag_row_data
tag_row_there x = refl

put_def : (x : ServiceDef) → IsDef x → IsRead (PutDef x)
unfolding command_data field_members word_of_command named word_of command_shape command_of name_of
put_def x own =
    let at = λ (k : Key). get_with name_of (name_of k) ((key.Command, word_data (PutDef x)) ∷ field_members (PutDef x)) no_members in
    let d = command_data (PutDef x) in
    record {
      found = at key.Command;
      next = ap (unless_fault _) (first_right _ _ (head (name_of key.Def) Must service_def_shape (def_data x) d (at key.Def) (def_there x) (def_right x own)) refl) ∙ ap Ok (ap PutDef (ap service_def_of (within_again (name_of key.Def) (def_data x) d (at key.Def) (def_there x)) ∙ def_again x own));
    }

create_service : (x : ServiceRow) → IsService x → IsRead (CreateService x)
unfolding command_data field_members word_of_command named word_of command_shape command_of name_of
create_service x own =
    let at = λ (k : Key). get_with name_of (name_of k) ((key.Command, word_data (CreateService x)) ∷ field_members (CreateService x)) no_members in
    let d = command_data (CreateService x) in
    record {
      found = at key.Command;
      next = ap (unless_fault _) (first_right _ _ (head (name_of key.Service) Must service_shape (service_data x) d (at key.Service) (service_there x) (service_right x)) refl) ∙ ap Ok (ap CreateService (ap service_of (within_again (name_of key.Service) (service_data x) d (at key.Service) (service_there x)) ∙ service_again x own));
    }

update_service : (x : ServiceRow) → IsService x → IsRead (UpdateService x)
unfolding command_data field_members word_of_command named word_of command_shape command_of name_of
update_service x own =
    let at = λ (k : Key). get_with name_of (name_of k) ((key.Command, word_data (UpdateService x)) ∷ field_members (UpdateService x)) no_members in
    let d = command_data (UpdateService x) in
    record {
      found = at key.Command;
      next = ap (unless_fault _) (first_right _ _ (head (name_of key.Service) Must service_shape (service_data x) d (at key.Service) (service_there x) (service_right x)) refl) ∙ ap Ok (ap UpdateService (ap service_of (within_again (name_of key.Service) (service_data x) d (at key.Service) (service_there x)) ∙ service_again x own));
    }

create_policy : (x : Policy) → IsPolicy x → IsRead (CreatePolicy x)
unfolding command_data field_members word_of_command named word_of command_shape command_of name_of
create_policy x own =
    let at = λ (k : Key). get_with name_of (name_of k) ((key.Command, word_data (CreatePolicy x)) ∷ field_members (CreatePolicy x)) no_members in
    let d = command_data (CreatePolicy x) in
    record {
      found = at key.Command;
      next = ap (unless_fault _) (first_right _ _ (head (name_of key.Policy) Must policy_shape (policy_data x) d (at key.Policy) (policy_there x) (policy_right x own)) refl) ∙ ap Ok (ap CreatePolicy (ap policy_of (within_again (name_of key.Policy) (policy_data x) d (at key.Policy) (policy_there x)) ∙ policy_again x own));
    }

update_policy : (x : Policy) → IsPolicy x → IsRead (UpdatePolicy x)
unfolding command_data field_members word_of_command named word_of command_shape command_of name_of
update_policy x own =
    let at = λ (k : Key). get_with name_of (name_of k) ((key.Command, word_data (UpdatePolicy x)) ∷ field_members (UpdatePolicy x)) no_members in
    let d = command_data (UpdatePolicy x) in
    record {
      found = at key.Command;
      next = ap (unless_fault _) (first_right _ _ (head (name_of key.Policy) Must policy_shape (policy_data x) d (at key.Policy) (policy_there x) (policy_right x own)) refl) ∙ ap Ok (ap UpdatePolicy (ap policy_of (within_again (name_of key.Policy) (policy_data x) d (at key.Policy) (policy_there x)) ∙ policy_again x own));
    }

put_role : (x : RoleRow) → IsRole x → IsRead (PutRole x)
unfolding command_data field_members word_of_command named word_of command_shape command_of name_of
put_role x own =
    let at = λ (k : Key). get_with name_of (name_of k) ((key.Command, word_data (PutRole x)) ∷ field_members (PutRole x)) no_members in
    let d = command_data (PutRole x) in
    record {
      found = at key.Command;
      next = ap (unless_fault _) (first_right _ _ (head (name_of key.Role) Must role_shape (role_data x) d (at key.Role) (role_there x) (role_right x)) refl) ∙ ap Ok (ap PutRole (ap role_of (within_again (name_of key.Role) (role_data x) d (at key.Role) (role_there x)) ∙ role_again x own));
    }

put_zone : (x : ZoneRow) → IsZone x → IsRead (PutZone x)
unfolding command_data field_members word_of_command named word_of command_shape command_of name_of
put_zone x own =
    let at = λ (k : Key). get_with name_of (name_of k) ((key.Command, word_data (PutZone x)) ∷ field_members (PutZone x)) no_members in
    let d = command_data (PutZone x) in
    record {
      found = at key.Command;
      next = ap (unless_fault _) (first_right _ _ (head (name_of key.Zone) Must zone_shape (zone_data x) d (at key.Zone) (zone_there x) (zone_right x own)) refl) ∙ ap Ok (ap PutZone (ap zone_of (within_again (name_of key.Zone) (zone_data x) d (at key.Zone) (zone_there x)) ∙ zone_again x own));
    }

put_user : (x : UserRow) → IsUser x → IsRead (PutUser x)
unfolding command_data field_members word_of_command named word_of command_shape command_of name_of
put_user x own =
    let at = λ (k : Key). get_with name_of (name_of k) ((key.Command, word_data (PutUser x)) ∷ field_members (PutUser x)) no_members in
    let d = command_data (PutUser x) in
    record {
      found = at key.Command;
      next = ap (unless_fault _) (first_right _ _ (head (name_of key.User) Must user_shape (user_data x) d (at key.User) (user_there x) (user_right x)) refl) ∙ ap Ok (ap PutUser (ap user_of (within_again (name_of key.User) (user_data x) d (at key.User) (user_there x)) ∙ user_again x own));
    }

delete_service : (name : List ℕ) → IsText name → IsRead (DeleteService name)
unfolding command_data field_members word_of_command named word_of command_shape command_of name_of text_data
delete_service name own =
    let at = λ (k : Key). get_with name_of (name_of k) ((key.Command, word_data (DeleteService name)) ∷ field_members (DeleteService name)) no_members in
    let d = command_data (DeleteService name) in
    record {
      found = at key.Command;
      next = ap (unless_fault _) (first_right _ _ (head (name_of key.Name) Must text (text_data name) d (at key.Name) refl (text_right name)) refl) ∙ ap Ok (ap DeleteService (text_again (name_of key.Name) name d (at key.Name) own));
    }

delete_role : (name : List ℕ) → IsText name → IsRead (DeleteRole name)
unfolding command_data field_members word_of_command named word_of command_shape command_of name_of text_data
delete_role name own =
    let at = λ (k : Key). get_with name_of (name_of k) ((key.Command, word_data (DeleteRole name)) ∷ field_members (DeleteRole name)) no_members in
    let d = command_data (DeleteRole name) in
    record {
      found = at key.Command;
      next = ap (unless_fault _) (first_right _ _ (head (name_of key.Name) Must text (text_data name) d (at key.Name) refl (text_right name)) refl) ∙ ap Ok (ap DeleteRole (text_again (name_of key.Name) name d (at key.Name) own));
    }

delete_zone : (name : List ℕ) → IsText name → IsRead (DeleteZone name)
unfolding command_data field_members word_of_command named word_of command_shape command_of name_of text_data
delete_zone name own =
    let at = λ (k : Key). get_with name_of (name_of k) ((key.Command, word_data (DeleteZone name)) ∷ field_members (DeleteZone name)) no_members in
    let d = command_data (DeleteZone name) in
    record {
      found = at key.Command;
      next = ap (unless_fault _) (first_right _ _ (head (name_of key.Name) Must text (text_data name) d (at key.Name) refl (text_right name)) refl) ∙ ap Ok (ap DeleteZone (text_again (name_of key.Name) name d (at key.Name) own));
    }

delete_user : (name : List ℕ) → IsText name → IsRead (DeleteUser name)
unfolding command_data field_members word_of_command named word_of command_shape command_of name_of text_data
delete_user name own =
    let at = λ (k : Key). get_with name_of (name_of k) ((key.Command, word_data (DeleteUser name)) ∷ field_members (DeleteUser name)) no_members in
    let d = command_data (DeleteUser name) in
    record {
      found = at key.Command;
      next = ap (unless_fault _) (first_right _ _ (head (name_of key.Name) Must text (text_data name) d (at key.Name) refl (text_right name)) refl) ∙ ap Ok (ap DeleteUser (text_again (name_of key.Name) name d (at key.Name) own));
    }

delete_policy : (id : PolicyId) → IsInteger id.0 → IsRead (DeletePolicy id)
unfolding command_data field_members word_of_command named word_of command_shape command_of name_of integer_data
delete_policy id own =
    let at = λ (k : Key). get_with name_of (name_of k) ((key.Command, word_data (DeletePolicy id)) ∷ field_members (DeletePolicy id)) no_members in
    let d = command_data (DeletePolicy id) in
    record {
      found = at key.Command;
      next = ap (unless_fault _) (first_right _ _ (head (name_of key.Id) Must integer (integer_data id.0) d (at key.Id) refl (integer_right id.0 own)) refl) ∙ ap Ok (λ i. DeletePolicy (record { 0 = integer_again (pos 0) (name_of key.Id) id.0 d (at key.Id) own i }));
    }

delete_tags : (id : ℤ) → IsInteger id → IsRead (DeleteTags id)
unfolding command_data field_members word_of_command named word_of command_shape command_of name_of integer_data
delete_tags id own =
    let at = λ (k : Key). get_with name_of (name_of k) ((key.Command, word_data (DeleteTags id)) ∷ field_members (DeleteTags id)) no_members in
    let d = command_data (DeleteTags id) in
    record {
      found = at key.Command;
      next = ap (unless_fault _) (first_right _ _ (head (name_of key.Id) Must integer (integer_data id) d (at key.Id) refl (integer_right id own)) refl) ∙ ap Ok (ap DeleteTags (integer_again (pos 0) (name_of key.Id) id d (at key.Id) own));
    }

put_tags : (id : ℤ) (row : TagRow) → IsInteger id → IsTagRow row → IsRead (PutTags id row)
unfolding command_data field_members word_of_command named word_of command_shape command_of name_of integer_data
put_tags id row own row_own =
    let at = λ (k : Key). get_with name_of (name_of k) ((key.Command, word_data (PutTags id row)) ∷ field_members (PutTags id row)) no_members in
    let d = command_data (PutTags id row) in
    record {
      found = at key.Command;
      next = ap (unless_fault _) (first_right _ _ (head (name_of key.Id) Must integer (integer_data id) d (at key.Id) refl (integer_right id own)) (
          first_right _ _ (head (name_of key.Row) Must tag_row_shape (tag_row_data row) d (at key.Row) (tag_row_there row) (tag_row_right row row_own)) refl)) ∙ ap Ok (ap₂ PutTags (integer_again (pos 0) (name_of key.Id) id d (at key.Id) own) (ap tag_row_of (within_again (name_of key.Row) (tag_row_data row) d (at key.Row) (tag_row_there row)) ∙ tag_row_again row row_own));
    }

kept_again : (c : AdminCommand) → is_keeping c ≡ true → IsCommandInOrder c → IsRead c
unfolding IsCommandInOrder
kept_again (PutDef def) keeps is = put_def def is
kept_again (CreateService service) keeps is = create_service service is
kept_again (UpdateService service) keeps is = update_service service is
kept_again (DeleteService name) keeps is = delete_service name is
kept_again (CreatePolicy policy) keeps is = create_policy policy is
kept_again (UpdatePolicy policy) keeps is = update_policy policy is
kept_again (DeletePolicy id) keeps is = delete_policy id is
kept_again (GetPolicy id) keeps is = absurd (true≢false (sym keeps))
kept_again (ListPolicies service) keeps is = absurd (true≢false (sym keeps))
kept_again (PutRole role) keeps is = put_role role is
kept_again (DeleteRole name) keeps is = delete_role name is
kept_again (PutZone zone) keeps is = put_zone zone is
kept_again (DeleteZone name) keeps is = delete_zone name is
kept_again (PutTags id row) keeps is = put_tags id row is.0 is.1
kept_again (DeleteTags id) keeps is = delete_tags id is
kept_again (PutUser user) keeps is = put_user user is
kept_again (DeleteUser name) keeps is = delete_user name is
kept_again (Download service policies_from tags_from roles_from) keeps is = absurd (true≢false (sym keeps))

-- ---- asks

command_there : (c : AdminCommand) → unless_null (command_data c) ≡ Some (command_data c)
unfolding command_data
command_there c = refl

ask_right : (a : Ask) → fault_of ask_shape (ask_data a) ≡ None
unfolding ask_data ask_name text_data
ask_right a =
    let d = ask_data a in
    first_right _ _ (head (ask_name own.Actor) Must text (text_data a.actor) d (get_with ask_name (ask_name own.Actor) (ask_members a) no_members) refl (text_right a.actor)) (
    first_right _ _ (head (ask_name own.Command) Must anything (command_data a.command) d (get_with ask_name (ask_name own.Command) (ask_members a) no_members) (command_there a.command) refl) refl)

actor_again : (a : Ask) → IsText a.actor → text_at (ask_name own.Actor) (ask_data a) ≡ a.actor
unfolding ask_data ask_name
actor_again a is = text_again (ask_name own.Actor) a.actor (ask_data a) (get_with ask_name (ask_name own.Actor) (ask_members a) no_members) is

command_within : (a : Ask) → within (ask_name own.Command) (ask_data a) ≡ command_data a.command
unfolding ask_data ask_name
command_within a = within_again (ask_name own.Command) (command_data a.command) (ask_data a) (get_with ask_name (ask_name own.Command) (ask_members a) no_members) (command_there a.command)

ask_again : (a : Ask) → is_keeping a.command ≡ true → IsInKeyOrder a → ask_in (Some (ask_data a)) ≡ Ok a
unfolding IsInKeyOrder
ask_again a keeps is =
    ap (λ fault. ask_unless fault (ask_data a)) (ask_right a)
    ∙ ap₂ (λ actor v. with_command actor (reading_in (Some v))) (actor_again a is.actor) (command_within a)
    ∙ ap (with_command a.actor) (reads a.command (kept_again a.command keeps is.command))

pub printed_again : (a : Ask) (d : Data) → d ≡ ask_data a
    → (has_float d ≡ false → depth d ≤ max_depth → data_of (compact_text d) ≡ Some d)
    → IsInKeyOrder a → is_keeping a.command ≡ true → ask_reading (ask_text a) ≡ Ok a
unfolding ask_text ask_reading
printed_again a d seen back is keeps =
    let shallow : depth d ≤ max_depth = omega (arith, ap depth seen, ask_is_shallow a) in
    ap ask_in (subst (λ x. data_of (compact_text x) ≡ Some x) seen (back (ap has_float seen ∙ ask_has_no_float a) shallow))
    ∙ ask_again a keeps is
