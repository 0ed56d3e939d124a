-- For proofs alone: what every step keeps of services, ids, versions and logs. The law of downloads and that of the world rest on it.
use Rattle.std.proofs.Common.{arith, ◌≡◌, ◌≤◌, ◌<◌, ◌+◌, ◌^◌, ◌&&◌, ◌||◌, ℕ, ℤ, pos, ◌+ℤ◌, int_lt, min, leb, Bool, true, false, not, cond, List, [], ◌∷◌, ◌++◌, map, Option, Some, None, refl, ap, sym, ◌∙◌, subst}
use Rattle.std.specs.List.{find, list_all, list_any}
use Rattle.std.specs.Option.{option_and_then}
use Rattle.std.specs.Ordering.{int_eq}
use Rattle.std.specs.Str.{bytes_eq}
use Rattle.std.proofs.lemmas.Bool.{and_from, and_parts, false≢true, le-leb, leb-true}
use Rattle.std.proofs.lemmas.Bool.Decides.{Decides-int_eq}
use Rattle.std.proofs.lemmas.Cmp.{int_eq_equiv}
use Rattle.std.proofs.lemmas.Slice.Eq.{bytes_eq-Decides}
use Rattle.std.proofs.lemmas.List.Folds.{list_all-map}
use Rattle.std.proofs.lemmas.List.Elements.{Contains-append_left, Contains-append_right}
use Rattle.rg_base.proofs.Lists.{Contains-filter, Contains-filtered, Contains-first, all_from, all_holds, any_from, any_holds, find_contained, list_all_agree, list_any-map}
use Rattle.rg_base.specs.Texts.{all_distinct, is_empty, is_name}
use Rattle.rg_policy.specs.declared.policy.Policy.{Policy}
use Rattle.rg_defs.specs.Rules.{tag_name}
use Rattle.rg_defs.specs.declared.service_def.ServiceDef.{ServiceDef}
use Rattle.rg_tags.specs.declared.row.TagRow.{TagRow}
use Rattle.rg_cmd.specs.Lists.{without}
use Rattle.rg_cmd.specs.Lookups.{def_at, def_of, has_def, has_id, has_row_id, is_def, is_of, is_row_of, is_service, is_tag_service, service_at}
use Rattle.rg_cmd.specs.declared.ask.AdminCommand.{AdminCommand}
use Rattle.rg_cmd.specs.declared.ask.AdminCommand.TheVariants.{PutDef, CreateService, UpdateService, DeleteService, CreatePolicy, UpdatePolicy, DeletePolicy, GetPolicy, ListPolicies, PutRole, DeleteRole, PutTags, DeleteTags, Download}
use Rattle.rg_cmd.specs.declared.changes.Log.{Log}
use Rattle.rg_cmd.specs.declared.rule.Rule.TheVariants.{C2, C3, C4, C5}
use Rattle.rg_cmd.specs.declared.state.ServiceRow.{ServiceRow}
use Rattle.rg_cmd.specs.declared.state.State.{State}
use Rattle.rg_validate.specs.Definitions.{keeps_definition, names_service, service_is_unused, service_name_is_new, tag_service_fits}
use Rattle.rg_validate.specs.Failing.{first_failing}
use Rattle.rg_validate.specs.Rules.{command_rules, definition_exists, only_reads, policy_exists, service_exists}
use Rattle.rg_validate.specs.Valid.{is_given, service_valid}
use Rattle.rg_admin_laws.specs.Changes.{after_command, created_form, next_id_after, stored_row, updated_form}
use Rattle.rg_delta.specs.Touches.{touched}
use Rattle.rg_admin_laws.specs.Logs.{Administration, is_log_of, logs_after, new_log, policy_book, tag_book, touched_log}
use Rattle.rg_admin_laws.specs.Steps.{accepted, counted, deletes, refused}
use Rattle.rg_admin_laws.specs.Touches.{policy_touch, tag_touch}
use Rattle.rg_admin_laws.proofs.Lists.{all_put, all_snoc, all_weaker, any_put, case, distinct_filtered, distinct_put, distinct_snoc, filter_all, find_append, find_own, find_put, find_some, find_without, none_from, none_passes, not_true, replaced}
use Rattle.rg_admin_laws.proofs.Moves.{other_name, own_name}
use Rattle.rg_admin_laws.proofs.Ids.{lt_differs, lt_grown, lt_more, lt_next, lt_wider, next_by_one, touched_low}
use Rattle.rg_admin_laws.proofs.Passing.{IsPassed, passed_at}

-- ---- what the rules of services say

-- C2: no service has the new one's name
pub new_is_new : (s : State) (row : ServiceRow) → first_failing (command_rules s (CreateService row)) ≡ None → list_any (is_service row.name) s.services.items ≡ false
new_is_new s row h = not_true (list_any (is_service row.name) s.services.items)
    (and_parts (is_name row.name) (not (list_any (is_service row.name) s.services.items)) (passed_at (command_rules s (CreateService row)) h 1 (C2, service_name_is_new s row.name) refl)).1

last_of_five : (a b c d e : Bool) → (a && (b && (c && (d && e)))) ≡ true → e ≡ true
last_of_five a b c d e h = (and_parts d e (and_parts c (d && e) (and_parts b (c && (d && e)) (and_parts a (b && (c && (d && e))) h).1).1).1).1

-- C5: no service has the deleted one as its tag service
pub not_tag_service : (s : State) (name : List ℕ) → first_failing (command_rules s (DeleteService name)) ≡ None → list_any (λ (row : ServiceRow). bytes_eq row.tag_service name) s.services.items ≡ false
not_tag_service s name h =
    not_true (list_any (λ (row : ServiceRow). bytes_eq row.tag_service name) s.services.items)
    (last_of_five (not (bytes_eq s.plugin name)) (not (list_any (is_of name) s.policies.items)) (not (list_any (is_row_of name) s.tag_rows.items)) (not (list_any (names_service name) s.zones.items))
    (not (list_any (λ (row : ServiceRow). bytes_eq row.tag_service name) s.services.items)) (passed_at (command_rules s (DeleteService name)) h 1 (C5, service_is_unused s name) refl))

-- C5: nor is it the plugin's service
pub not_plugin : (s : State) (name : List ℕ) → first_failing (command_rules s (DeleteService name)) ≡ None → bytes_eq s.plugin name ≡ false
not_plugin s name h = not_true (bytes_eq s.plugin name) (and_parts _ _ (passed_at (command_rules s (DeleteService name)) h 1 (C5, service_is_unused s name) refl)).0

-- a service that has a definition is there
pub has_row : (o : Option ServiceRow) (def : List ℕ) → has_def def o ≡ true → (row : ServiceRow) × (o ≡ Some row)
has_row None def h = absurd (false≢true h)
has_row (Some row) def h = (row, refl)

-- C4: the updated row is there, and has the same definition
pub record IsUpdate (s : State) (row : ServiceRow) : Type 0 where
  pub old : ServiceRow
  pub found : service_at s row.name ≡ Some old
  pub there : list_any (is_service row.name) s.services.items ≡ true
  pub same_def : old.def ≡ row.def

pub is_update : (s : State) (row : ServiceRow) → first_failing (command_rules s (UpdateService row)) ≡ None → IsUpdate s row
is_update s row h =
    let keeps = passed_at (command_rules s (UpdateService row)) h 3 (C4, keeps_definition s row) refl in
    let old = has_row (service_at s row.name) row.def keeps in
    record {
      old = old.0;
      found = old.1;
      there = passed_at (command_rules s (UpdateService row)) h 0 (service_exists s row.name) refl;
      same_def = (bytes_eq-Decides old.0.def row.def).0 (sym (ap (has_def row.def) old.1) ∙ keeps);
    }

pub updated_found : (s : State) (row : ServiceRow) → IsUpdate s row → service_at (after_command s (UpdateService row)) row.name ≡ Some row
updated_found s row update =
    ap (λ b. find (is_service row.name) (cond b (replaced (is_service row.name) row s.services.items) (s.services.items ++ row ∷ []))) update.there
    ∙ find_own (is_service row.name) row (own_name row.name) s.services.items update.there

-- an update changes no definition of a service
pub updated_def : (s : State) (row : ServiceRow) → IsUpdate s row → (def name : List ℕ) → has_def def (service_at (after_command s (UpdateService row)) name) ≡ has_def def (service_at s name)
updated_def s row update def name =
    case (λ b. bytes_eq row.name name ≡ b → has_def def (service_at (after_command s (UpdateService row)) name) ≡ has_def def (service_at s name)) (bytes_eq row.name name)
    (λ _ is. subst (λ n. has_def def (service_at (after_command s (UpdateService row)) n) ≡ has_def def (service_at s n)) ((bytes_eq-Decides row.name name).0 is)
    (ap (has_def def) (updated_found s row update)
    ∙ ap (λ n. bytes_eq n def) (sym update.same_def) ∙ sym (ap (has_def def) update.found)))
    (λ _ other. ap (has_def def) (find_put (is_service name) (is_service row.name) (λ y is. ap (λ n. bytes_eq n name) ((bytes_eq-Decides y.name row.name).0 is) ∙ other) row other s.services.items))
    refl

-- what no command changes
pub plugin_of : (s : State) (c : AdminCommand) → (after_command s c).plugin ≡ s.plugin
plugin_of s (PutDef d) = refl
plugin_of s c = refl

pub count_of : (s : State) (c : AdminCommand) → (after_command s c).count ≡ s.count
count_of s (PutDef d) = refl
count_of s c = refl

-- ---- E3 and C3 of each service

module _ (s later : State) (row : ServiceRow) where
  service_on : (list_any (is_def row.def) s.defs.items ≡ true → list_any (is_def row.def) later.defs.items ≡ true)
      → (is_tag_service s row.tag_service ≡ true → is_tag_service later row.tag_service ≡ true) → service_valid s row ≡ true → service_valid later row ≡ true
  service_on defs tags valid =
      let both = and_parts (list_any (is_def row.def) s.defs.items) (tag_service_fits s row) valid in
      and_from (list_any (is_def row.def) later.defs.items) (tag_service_fits later row) (defs both.0) (fits both.1)
    where
      plain : Bool
      plain = not (bytes_eq row.def tag_name)

      fits : tag_service_fits s row ≡ true → tag_service_fits later row ≡ true
      fits h = case (λ b. (b || (is_tag_service s row.tag_service && plain)) ≡ true → (b || (is_tag_service later row.tag_service && plain)) ≡ true) (is_empty row.tag_service)
          (λ _ _. refl) (λ _ g. let p = and_parts (is_tag_service s row.tag_service) plain g in and_from (is_tag_service later row.tag_service) plain (tags p.0) p.1) h

abbrev pub ServicesValid : State → Type 0
ServicesValid s = list_all (service_valid s) s.services.items ≡ true

pub services_stay : (s : State) → ServicesValid s → (c : AdminCommand) → first_failing (command_rules s c) ≡ None → ServicesValid (after_command s c)
services_stay s valid (PutDef def) h = all_weaker (service_valid s) (service_valid (after_command s (PutDef def))) s.services.items
    (λ row _ its. service_on s (after_command s (PutDef def)) row
    (λ there. any_put (is_def row.def) (is_def def.name) def (λ y is same. ap (λ n. bytes_eq n row.def) (sym ((bytes_eq-Decides y.name def.name).0 is)) ∙ same) s.defs.items there) (λ tag. tag) its) valid
services_stay s valid (CreateService row) h =
    let later = after_command s (CreateService row) in
    let tags = λ (name : List ℕ) (is : is_tag_service s name ≡ true). let q = has_row (service_at s name) tag_name is in ap (has_def tag_name) (find_append (is_service name) s.services.items (row ∷ []) q.0 q.1 ∙ sym q.1) ∙ is in
    all_snoc (service_valid later) s.services.items row
    (all_weaker (service_valid s) (service_valid later) s.services.items (λ r _ its. service_on s later r (λ there. there) (tags r.tag_service) its) valid)
    (service_on s later row (λ there. there) (tags row.tag_service)
    (and_from (list_any (is_def row.def) s.defs.items) (tag_service_fits s row) (passed_at (command_rules s (CreateService row)) h 0 (definition_exists s row.def) refl)
    (passed_at (command_rules s (CreateService row)) h 2 (C3, tag_service_fits s row) refl)))
services_stay s valid (UpdateService row) h =
    let later = after_command s (UpdateService row) in
    let update = is_update s row h in
    let on = λ (r : ServiceRow). service_on s later r (λ there. there) (λ tag. updated_def s row update tag_name r.tag_service ∙ tag) in
    all_put (service_valid later) (is_service row.name) row s.services.items
    (all_weaker (service_valid s) (service_valid later) s.services.items (λ r _ its. on r its) valid)
    (on row (and_from (list_any (is_def row.def) s.defs.items) (tag_service_fits s row) (passed_at (command_rules s (UpdateService row)) h 1 (definition_exists s row.def) refl)
    (passed_at (command_rules s (UpdateService row)) h 2 (C3, tag_service_fits s row) refl)))
services_stay s valid (DeleteService name) h =
    let later = after_command s (DeleteService name) in
    let none = not_tag_service s name h in
    all_from (service_valid later) (without (is_service name) s.services.items) (λ r there.
    let f = Contains-filtered (λ y. not (is_service name y)) s.services.items r there in
    let apart = none_passes (λ (q : ServiceRow). bytes_eq q.tag_service name) s.services.items none r f.0 in
    service_on s later r (λ d. d) (λ tag. ap (has_def tag_name) (find_without (is_service r.tag_service) (is_service name) (λ y is. other_name name r.tag_service y.name apart is) s.services.items) ∙ tag)
    (all_holds (service_valid s) s.services.items valid r f.0))
services_stay s valid c h = valid

-- a service that is there has a definition
pub def_there : (s : State) → ServicesValid s → (service : List ℕ) → list_any (is_service service) s.services.items ≡ true → (def : ServiceDef) × (def_of s service ≡ Some def)
def_there s valid service there =
    let row = find_some (is_service service) s.services.items there in
    let own = and_parts (list_any (is_def row.0.def) s.defs.items) (tag_service_fits s row.0) (all_holds (service_valid s) s.services.items valid row.0 (find_contained (is_service service) s.services.items row.0 row.1).0) in
    let def = find_some (is_def row.0.def) s.defs.items own.0 in
    (def.0, ap (option_and_then (λ (r : ServiceRow). def_at s r.def)) row.1 ∙ def.1)

-- a service stays that isn't deleted
pub service_stays : (s : State) (c : AdminCommand) (name : List ℕ) → deletes c name ≡ false → list_any (is_service name) s.services.items ≡ true → list_any (is_service name) (after_command s c).services.items ≡ true
service_stays s (PutDef def) name stays there = there
service_stays s (CreateService row) name stays there = let r = any_holds (is_service name) s.services.items there in any_from (is_service name) (s.services.items ++ row ∷ []) r.0 (Contains-append_left s.services.items (row ∷ []) r.0 r.1) r.2
service_stays s (UpdateService row) name stays there = any_put (is_service name) (is_service row.name) row (λ y is same. ap (λ n. bytes_eq n name) (sym ((bytes_eq-Decides y.name row.name).0 is)) ∙ same) s.services.items there
service_stays s (DeleteService gone) name stays there =
    let r = any_holds (is_service name) s.services.items there in
    any_from (is_service name) (without (is_service gone) s.services.items) r.0 (Contains-filter (λ y. not (is_service gone y)) s.services.items r.0 r.1
    (ap not (ap (λ n. bytes_eq n gone) ((bytes_eq-Decides r.0.name name).0 r.2) ∙ other_name name gone name stays (own_name name)))) r.2
service_stays s c name stays there = there

-- ---- ids

abbrev pub same_policy_id : Policy → Policy → Bool
same_policy_id p q = int_eq p.id.0 q.id.0

abbrev pub same_row_id : TagRow → TagRow → Bool
same_row_id a b = int_eq a.id b.id

-- a given id isn't the next one
fresh : (s : State) → list_all (is_given s) s.policies.items ≡ true → (p : Policy) → list_any (same_policy_id (created_form s p)) s.policies.items ≡ false
fresh s given p = none_from (same_policy_id (created_form s p)) s.policies.items
    (λ q there. lt_differs q.id.0 s.next_id (and_parts (int_lt (pos 0) q.id.0) (int_lt q.id.0 s.next_id) (all_holds (is_given s) s.policies.items given q there)).1)

int_turn : (a b : ℤ) → int_eq a b ≡ int_eq b a
int_turn a b = int_eq_equiv.symm a b

pub policy_ids : (s : State) → all_distinct same_policy_id s.policies.items ≡ true → list_all (is_given s) s.policies.items ≡ true → (c : AdminCommand) → all_distinct same_policy_id (after_command s c).policies.items ≡ true
policy_ids s distinct given (CreatePolicy p) = distinct_snoc same_policy_id (λ p q. int_turn p.id.0 q.id.0) s.policies.items (created_form s p) distinct (fresh s given p)
policy_ids s distinct given (UpdatePolicy p) =
    distinct_put (λ (q : Policy). q.id.0) int_eq int_turn (has_id p.id.0) (updated_form s p) (λ y h. sym ((Decides-int_eq y.id.0 p.id.0).0 h)) (λ y. int_turn p.id.0 y.id.0) s.policies.items distinct
policy_ids s distinct given (DeletePolicy id) = distinct_filtered same_policy_id (λ p. not (has_id id.0 p)) s.policies.items distinct
policy_ids s distinct given c = distinct

pub row_ids : (s : State) → all_distinct same_row_id s.tag_rows.items ≡ true → (c : AdminCommand) → all_distinct same_row_id (after_command s c).tag_rows.items ≡ true
row_ids s distinct (PutTags id row) =
    distinct_put (λ (r : TagRow). r.id) int_eq int_turn (has_row_id id) (stored_row id row) (λ y h. sym ((Decides-int_eq y.id id).0 h)) (λ y. int_turn id y.id) s.tag_rows.items distinct
row_ids s distinct (DeleteTags id) = distinct_filtered same_row_id (λ row. not (has_row_id id row)) s.tag_rows.items distinct
row_ids s distinct c = distinct

-- ---- the state

-- what of a state every step keeps
pub record IsOrderlyState (s : State) : Type 0 where
  pub services : ServicesValid s
  pub policies : all_distinct same_policy_id s.policies.items ≡ true
  pub given : list_all (is_given s) s.policies.items ≡ true
  pub positive : int_lt (pos 0) s.next_id ≡ true
  pub next : int_lt s.next_id (pos (s.count + 2)) ≡ true
  pub rows : all_distinct same_row_id s.tag_rows.items ≡ true
  pub plugin : list_any (is_service s.plugin) s.services.items ≡ true
  pub roles : s.role_version.0 ≤ s.count + 1
  pub limit : s.count ≤ 2 ^ 62

module _ (s : State) (o : IsOrderlyState s) where
  next_is : s.count < 2 ^ 62 → next_id_after s.next_id ≡ s.next_id +ℤ pos 1
  next_is low = next_by_one s.next_id s.count low o.next

  -- the ids stay given after one more is
  given_more : (c : AdminCommand) → IsPassed s c → list_all (is_given (after_command s c)) (after_command s c).policies.items ≡ true
  given_more (CreatePolicy p) passed =
      let next = next_is (passed.limit refl) in
      all_snoc (is_given (after_command s (CreatePolicy p))) s.policies.items (created_form s p)
      (all_weaker (is_given s) (is_given (after_command s (CreatePolicy p))) s.policies.items
      (λ q _ h. let both = and_parts (int_lt (pos 0) q.id.0) (int_lt q.id.0 s.next_id) h in
      and_from (int_lt (pos 0) q.id.0) (int_lt q.id.0 (next_id_after s.next_id)) both.0 (subst (λ n. int_lt q.id.0 n ≡ true) (sym next) (lt_more q.id.0 s.next_id both.1))) o.given)
      (and_from (int_lt (pos 0) s.next_id) (int_lt s.next_id (next_id_after s.next_id)) o.positive (subst (λ n. int_lt s.next_id n ≡ true) (sym next) (lt_next s.next_id)))
  given_more (UpdatePolicy p) passed =
      let there = passed_at (command_rules s (UpdatePolicy p)) passed.rules 0 (policy_exists s p.id.0) refl in
      let r = any_holds (has_id p.id.0) s.policies.items there in
      all_put (is_given s) (has_id p.id.0) (updated_form s p) s.policies.items o.given
      (subst (λ (n : ℤ). (int_lt (pos 0) n && int_lt n s.next_id) ≡ true) ((Decides-int_eq r.0.id.0 p.id.0).0 r.2) (all_holds (is_given s) s.policies.items o.given r.0 r.1))
  given_more (DeletePolicy id) passed = filter_all (λ p. not (has_id id.0 p)) (is_given s) (is_given s) (λ _ _ h. h) s.policies.items o.given
  given_more c passed = o.given

  positive_more : (c : AdminCommand) → IsPassed s c → int_lt (pos 0) (after_command s c).next_id ≡ true
  positive_more (CreatePolicy p) passed = subst (λ n. int_lt (pos 0) n ≡ true) (sym (next_is (passed.limit refl))) (lt_more (pos 0) s.next_id o.positive)
  positive_more c passed = o.positive

  -- an entry more, and at most one id more
  next_more : (c : AdminCommand) → IsPassed s c → int_lt (after_command s c).next_id (pos (min (s.count + 1) (2 ^ 62) + 2)) ≡ true
  next_more (CreatePolicy p) passed =
      let low = passed.limit refl in
      subst (λ n. int_lt n (pos (min (s.count + 1) (2 ^ 62) + 2)) ≡ true) (sym (next_is low))
      (subst (λ m. int_lt (s.next_id +ℤ pos 1) (pos (m + 2)) ≡ true) (omega (arith, low)) (lt_grown s.next_id s.count o.next))
  next_more c passed = lt_wider s.next_id s.count (min (s.count + 1) (2 ^ 62)) (let top = o.limit in omega (arith, top)) o.next

  roles_more : (c : AdminCommand) → IsPassed s c → (after_command s c).role_version.0 ≤ min (s.count + 1) (2 ^ 62) + 1
  roles_more (PutRole row) passed = let low = passed.limit refl in let h = o.roles in omega (arith, low, h)
  roles_more (DeleteRole name) passed = let low = passed.limit refl in let h = o.roles in omega (arith, low, h)
  roles_more c passed = let top = o.limit in let h = o.roles in omega (arith, top, h)

  -- the plugin's service is never deleted
  pub plugin_stays : (c : AdminCommand) → IsPassed s c → deletes c s.plugin ≡ false
  plugin_stays (DeleteService name) passed = other_name name s.plugin name (not_plugin s name passed.rules) (own_name name)
  plugin_stays c passed = refl

  pub orderly_after : (c : AdminCommand) → IsPassed s c → IsOrderlyState (counted (after_command s c))
  orderly_after c passed = record {
    services = services_stay s o.services c passed.rules;
    policies = policy_ids s o.policies o.given c;
    given = given_more c passed;
    positive = positive_more c passed;
    next = subst (λ n. int_lt (after_command s c).next_id (pos (min (n + 1) (2 ^ 62) + 2)) ≡ true) (sym (count_of s c)) (next_more c passed);
    rows = row_ids s o.rows c;
    plugin = subst (λ n. list_any (is_service n) (after_command s c).services.items ≡ true) (sym (plugin_of s c)) (service_stays s c s.plugin (plugin_stays c passed) o.plugin);
    roles = subst (λ n. (after_command s c).role_version.0 ≤ min (n + 1) (2 ^ 62) + 1) (sym (count_of s c)) (roles_more c passed);
    limit = omega arith;
  }

  pub orderly_refused : IsOrderlyState (counted s)
  orderly_refused = record {
    services = o.services;
    policies = o.policies;
    given = o.given;
    positive = o.positive;
    next = lt_wider s.next_id s.count (min (s.count + 1) (2 ^ 62)) (let top = o.limit in omega (arith, top)) o.next;
    rows = o.rows;
    plugin = o.plugin;
    roles = let top = o.limit in let h = o.roles in omega (arith, top, h);
    limit = omega arith;
  }

-- ---- the logs

-- the versions are at most one more than the number of entries
abbrev pub is_counted : ℕ → Log → Bool
is_counted n log = leb log.policy_version.0 (n + 1) && leb log.tag_version.0 (n + 1)

-- the service has a log
abbrev pub has_log : List Log → ServiceRow → Bool
has_log logs row = list_any (is_log_of row.name) logs

pub record IsOrderly (a : Administration) : Type 0 where
  pub state : IsOrderlyState a.state
  pub logged : list_all (has_log a.logs) a.state.services.items ≡ true
  pub counted : list_all (is_counted a.state.count) a.logs ≡ true

counted_wider : (n m : ℕ) → n ≤ m → (logs : List Log) → list_all (is_counted n) logs ≡ true → list_all (is_counted m) logs ≡ true
counted_wider n m le logs h = all_weaker (is_counted n) (is_counted m) logs (λ log _ its.
    let both = and_parts (leb log.policy_version.0 (n + 1)) (leb log.tag_version.0 (n + 1)) its in
    let policies = leb-true log.policy_version.0 (n + 1) both.0 in let tags = leb-true log.tag_version.0 (n + 1) both.1 in
    and_from (leb log.policy_version.0 (m + 1)) (leb log.tag_version.0 (m + 1)) (le-leb log.policy_version.0 (m + 1) (omega (arith, policies, le))) (le-leb log.tag_version.0 (m + 1) (omega (arith, tags, le)))) h

counted_touched : (s : State) (c : AdminCommand) (n : ℕ) (logs : List Log) → list_all (is_counted n) logs ≡ true → list_all (is_counted (n + 1)) (map (touched_log s c) logs) ≡ true
counted_touched s c n [] h = refl
counted_touched s c n (log ∷ logs) h =
    let all = and_parts (is_counted n log) (list_all (is_counted n) logs) h in
    let both = and_parts (leb log.policy_version.0 (n + 1)) (leb log.tag_version.0 (n + 1)) all.0 in
    and_from (is_counted (n + 1) (touched_log s c log)) (list_all (is_counted (n + 1)) (map (touched_log s c) logs))
    (and_from _ _
    (le-leb (touched (policy_touch s c log.service) (policy_book log)).version ((n + 1) + 1) (touched_low (policy_touch s c log.service) (policy_book log) n (leb-true log.policy_version.0 (n + 1) both.0)))
    (le-leb (touched (tag_touch s c log.service) (tag_book log)).version ((n + 1) + 1) (touched_low (tag_touch s c log.service) (tag_book log) n (leb-true log.tag_version.0 (n + 1) both.1))))
    (counted_touched s c n logs all.1)

-- a command that only reads touches no log
counted_same : (s : State) (c : AdminCommand) (n : ℕ) → ((log : Log) → is_counted n (touched_log s c log) ≡ is_counted n log) → (logs : List Log) → list_all (is_counted n) logs ≡ true → list_all (is_counted n) (map (touched_log s c) logs) ≡ true
counted_same s c n same logs h = list_all-map (is_counted n) (touched_log s c) logs ∙ list_all_agree (λ log. is_counted n (touched_log s c log)) (is_counted n) same logs ∙ h

counted_read : (s : State) (c : AdminCommand) → only_reads c ≡ true → (n : ℕ) (logs : List Log) → list_all (is_counted n) logs ≡ true → list_all (is_counted n) (logs_after s c logs) ≡ true
counted_read s (GetPolicy id) is n logs h = counted_same s (GetPolicy id) n (λ _. refl) logs h
counted_read s (ListPolicies name) is n logs h = counted_same s (ListPolicies name) n (λ _. refl) logs h
counted_read s (Download name pf tf rf) is n logs h = counted_same s (Download name pf tf rf) n (λ _. refl) logs h
counted_read s c is n logs h = absurd (false≢true is)

counted_more : (s : State) (c : AdminCommand) (n : ℕ) (logs : List Log) → list_all (is_counted n) logs ≡ true → list_all (is_counted (n + 1)) (logs_after s c logs) ≡ true
counted_more s (CreateService row) n logs h = all_snoc (is_counted (n + 1)) logs (new_log row.name) (counted_wider n (n + 1) (omega arith) logs h) (and_from _ _ (le-leb 1 ((n + 1) + 1) (omega arith)) (le-leb 1 ((n + 1) + 1) (omega arith)))
counted_more s (DeleteService name) n logs h = filter_all (λ log. not (is_log_of name log)) (is_counted (n + 1)) (is_counted (n + 1)) (λ _ _ its. its) logs (counted_wider n (n + 1) (omega arith) logs h)
counted_more s c n logs h = counted_touched s c n logs h

logs_named : (s : State) (c : AdminCommand) (row : ServiceRow) (logs : List Log) → has_log (map (touched_log s c) logs) row ≡ has_log logs row
logs_named s c row logs = list_any-map (is_log_of row.name) (touched_log s c) logs

same_logged : (s : State) (c : AdminCommand) (logs : List Log) (services : List ServiceRow) → list_all (has_log logs) services ≡ true → list_all (has_log (map (touched_log s c) logs)) services ≡ true
same_logged s c logs services h = all_weaker (has_log logs) (has_log (map (touched_log s c) logs)) services (λ row _ its. logs_named s c row logs ∙ its) h

logged_more : (s : State) (c : AdminCommand) (logs : List Log) → list_all (has_log logs) s.services.items ≡ true → first_failing (command_rules s c) ≡ None → list_all (has_log (logs_after s c logs)) (after_command s c).services.items ≡ true
logged_more s (CreateService row) logs h rules =
    let new = has_log (logs ++ new_log row.name ∷ []) in
    all_snoc new s.services.items row
    (all_weaker (has_log logs) new s.services.items (λ r _ its. let l = any_holds (is_log_of r.name) logs its in any_from (is_log_of r.name) (logs ++ new_log row.name ∷ []) l.0 (Contains-append_left logs (new_log row.name ∷ []) l.0 l.1) l.2) h)
    (any_from (is_log_of row.name) (logs ++ new_log row.name ∷ []) (new_log row.name) (Contains-append_right logs (new_log row.name ∷ []) (new_log row.name) (Contains-first (new_log row.name) [])) (own_name row.name))
logged_more s (UpdateService row) logs h rules =
    let new = has_log (map (touched_log s (UpdateService row)) logs) in
    let old = any_holds (is_service row.name) s.services.items (is_update s row rules).there in
    let kept = same_logged s (UpdateService row) logs s.services.items h in
    all_put new (is_service row.name) row s.services.items kept
    (subst (λ n. list_any (is_log_of n) (map (touched_log s (UpdateService row)) logs) ≡ true) ((bytes_eq-Decides old.0.name row.name).0 old.2) (all_holds new s.services.items kept old.0 old.1))
logged_more s (DeleteService name) logs h rules =
    filter_all (λ row. not (is_service name row)) (has_log logs) (has_log (without (is_log_of name) logs)) (λ row stays its.
    let l = any_holds (is_log_of row.name) logs its in
    any_from (is_log_of row.name) (without (is_log_of name) logs) l.0
    (Contains-filter (λ log. not (is_log_of name log)) logs l.0 l.1 (ap (λ n. not (bytes_eq n name)) ((bytes_eq-Decides l.0.service row.name).0 l.2) ∙ stays)) l.2) s.services.items h
logged_more s c logs h rules = same_logged s c logs s.services.items h

-- ---- the administration

pub orderly_accepted : (a : Administration) (c : AdminCommand) → IsOrderly a → IsPassed a.state c → IsOrderly (accepted a c)
orderly_accepted a c o passed = record {
  state = orderly_after a.state o.state c passed;
  logged = logged_more a.state c a.logs o.logged passed.rules;
  counted = case (λ b. only_reads c ≡ b → list_all (is_counted (min ((after_command a.state c).count + 1) (2 ^ 62))) (logs_after a.state c a.logs) ≡ true) (only_reads c)
      (λ _ reads. counted_wider a.state.count (min ((after_command a.state c).count + 1) (2 ^ 62)) (let top = o.state.limit in let same = count_of a.state c in omega (arith, top, same)) (logs_after a.state c a.logs) (counted_read a.state c reads a.state.count a.logs o.counted))
      (λ _ changes. counted_wider (a.state.count + 1) (min ((after_command a.state c).count + 1) (2 ^ 62)) (let low = passed.limit changes in let same = count_of a.state c in omega (arith, low, same)) (logs_after a.state c a.logs) (counted_more a.state c a.state.count a.logs o.counted))
      refl;
}

pub orderly_refuses : (a : Administration) → IsOrderly a → IsOrderly (refused a)
orderly_refuses a o = record {
  state = orderly_refused a.state o.state;
  logged = o.logged;
  counted = counted_wider a.state.count (min (a.state.count + 1) (2 ^ 62)) (let top = o.state.limit in omega (arith, top)) a.logs o.counted;
}
