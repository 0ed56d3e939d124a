-- For proofs alone: every step keeps a state valid, so every view of a history is sound.
use Rattle.std.proofs.Common.{arith, ◌≡◌, ◌↔◌, ◌≤◌, ◌<◌, ◌+◌, ◌^◌, ◌&&◌, ℕ, pos, int_lt, Bool, true, not, is_none, leb, Contains, List, [], ◌∷◌, length, take, Option, Some, None, refl, ap, sym}
use Rattle.std.specs.Bool.{IsTrue}
use Rattle.std.specs.List.{filter, list_all, list_any}
use Rattle.std.specs.Str.{bytes_eq}
use Rattle.std.proofs.lemmas.Bool.{and_from, and_parts, false≢true, leb-true}
use Rattle.std.proofs.lemmas.List.{length-take-le}
use Rattle.std.proofs.lemmas.Slice.Eq.{bytes_eq-Decides}
use Rattle.rg_base.proofs.Lists.{all_holds, find_contained}
use Rattle.rg_base.specs.Listed.{Listed, listed}
use Rattle.rg_base.specs.Texts.{all_distinct, is_among}
use Rattle.rg_base.specs.declared.numbers.Version.{Version}
use Rattle.rg_policy.specs.declared.policy.Policy.{Policy}
use Rattle.rg_defs.specs.declared.service_def.ServiceDef.{ServiceDef}
use Rattle.rg_facts.specs.Sound.{sound}
use Rattle.rg_facts.specs.declared.facts.Facts.{Facts}
use Rattle.rg_roles.specs.Chains.{Leads, leads}
use Rattle.rg_roles.specs.Faults.{AreSound, IsApart, IsPut, NamesThere, fault_of}
use Rattle.rg_roles.specs.Members.{names_of}
use Rattle.rg_roles.specs.declared.fault.RoleFault.{RoleFault}
use Rattle.rg_roles.specs.declared.row.RoleRow.{RoleRow}
use Rattle.rg_turn.specs.History.{state_after, state_at}
use Rattle.rg_turn.specs.declared.rule.Entry.{Entry}
use Rattle.rg_zone_rules.specs.Overlap.{first_overlap, zones_overlap}
use Rattle.rg_zone_rules.specs.Rules.{policy_zone_fits}
use Rattle.rg_zone_rules.specs.declared.row.ZoneRow.{ZoneRow}
use Rattle.rg_cmd.specs.Lists.{put, without}
use Rattle.rg_cmd.specs.Lookups.{has_id, has_row_id, is_role, is_service, is_tag_service, is_user, is_zone}
use Rattle.rg_cmd.specs.declared.ask.AdminCommand.{AdminCommand}
use Rattle.rg_cmd.specs.declared.ask.AdminCommand.TheVariants.{PutDef, CreateService, UpdateService, DeleteService, CreatePolicy, UpdatePolicy, DeletePolicy, GetPolicy, ListPolicies, PutRole, DeleteRole, PutZone, DeleteZone, PutTags, DeleteTags, PutUser, DeleteUser, Download}
use Rattle.rg_cmd.specs.declared.ask.AdminReply.{AdminReply}
use Rattle.rg_cmd.specs.declared.ask.Ask.{Ask}
use Rattle.rg_cmd.specs.declared.rule.Rule.{Rule}
use Rattle.rg_cmd.specs.declared.rule.Rule.TheVariants.{O4, Z6}
use Rattle.rg_cmd.specs.declared.state.State.{State}
use Rattle.rg_cmd.specs.declared.state.UserRow.{UserRow}
use Rattle.rg_validate.specs.Definitions.{plugin_fits}
use Rattle.rg_validate.specs.Failing.{first_failing}
use Rattle.rg_validate.specs.Policies.{zone_fits}
use Rattle.rg_validate.specs.Roles.{other_names_role, policy_names_role, role_is_unused, zone_names_role}
use Rattle.rg_validate.specs.Rules.{command_rules}
use Rattle.rg_validate.specs.Valid.{IsKept, IsValid, policy_valid, tag_row_valid, zone_valid}
use Rattle.rg_validate.specs.Zones.{are_apart, are_apart_for, zone_is_apart}
use Rattle.rg_admin_laws.specs.Changes.{after_command, created_form, stored_row, updated_form}
use Rattle.rg_admin_laws.specs.Logs.{Administration, is_log_of}
use Rattle.rg_admin_laws.specs.Starts.{IsStart}
use Rattle.rg_admin_laws.specs.Steps.{counted, fault, step, step_by}
use Rattle.rg_admin_laws.specs.Views.{view}
use Rattle.rg_admin_laws.proofs.Histories.{step_orderly}
use Rattle.rg_admin_laws.proofs.KeptDefs.{put_def_kept}
use Rattle.rg_admin_laws.proofs.KeptPolicies.{created_passes, row_passes, updated_passes}
use Rattle.rg_admin_laws.proofs.KeptRoles.{among_left, among_put, named_other, roles_after_delete, roles_after_put, subjects_exist_on, subjects_fit_on, text_turn}
use Rattle.rg_admin_laws.proofs.KeptServices.{create_service_kept, delete_service_kept, update_service_kept}
use Rattle.rg_admin_laws.proofs.KeptSingle.{plugin_fits_after, rows_given_after, single_after, single_counted}
use Rattle.rg_admin_laws.proofs.KeptZones.{apart_left, zone_fits_left, zone_fits_put, zone_passes}
use Rattle.rg_admin_laws.proofs.Lawful.{at_orderly, count_after, start_orderly}
use Rattle.rg_admin_laws.proofs.Lists.{all_put, all_snoc, all_weaker, distinct_filtered, distinct_put, filter_all, none_passes, not_true}
use Rattle.rg_admin_laws.proofs.Orderly.{IsOrderly, IsOrderlyState, is_counted, orderly_after, orderly_refused, policy_ids, row_ids}
use Rattle.rg_admin_laws.proofs.Parts.{policy_parts, policy_whole, zone_parts, zone_whole}
use Rattle.rg_admin_laws.proofs.Passing.{passed, passed_at}
use Rattle.rg_admin_laws.proofs.SoundViews.{view_sound}

-- ---- the start of a count

counted_valid : (s : State) → IsValid s → IsValid (counted s)
unfolding are_apart are_apart_for
counted_valid s valid = record {
  definitions = valid.definitions;
  services = valid.services;
  policies = valid.policies;
  zones = valid.zones;
  apart = valid.apart;
  tag_rows = valid.tag_rows;
  time_zones = valid.time_zones;
  roles = valid.roles;
  definition_names = valid.definition_names;
  service_names = valid.service_names;
  zone_names = valid.zone_names;
  user_names = valid.user_names;
  policy_ids = valid.policy_ids;
  tag_row_ids = valid.tag_row_ids;
}

-- ---- roles

module _ (s : State) (valid : IsValid s) (roles : Listed RoleRow) (version : Version) where
  abbrev with_roles : State
  with_roles = record s { roles = roles; role_version = version }

  roles_kept : fault_of roles.items ≡ None
      → ((p : Policy) → Contains s.policies.items p → (name : List ℕ) → policy_names_role name p ≡ true → is_among name (names_of s.roles.items) ≡ true → is_among name (names_of roles.items) ≡ true)
      → ((z : ZoneRow) → Contains s.zones.items z → (name : List ℕ) → zone_names_role name z ≡ true → is_among name (names_of s.roles.items) ≡ true → is_among name (names_of roles.items) ≡ true)
      → IsValid with_roles
  unfolding are_apart are_apart_for
  roles_kept sound policies zones = record {
    definitions = valid.definitions;
    services = valid.services;
    policies = all_weaker (policy_valid s) (policy_valid with_roles) s.policies.items (λ p there v.
        let parts = policy_parts s p v in
        policy_whole with_roles p (record {
          suits = parts.suits;
          priority = parts.priority;
          subjects = subjects_fit_on (names_of s.roles.items) (names_of roles.items) p (policies p there) parts.subjects;
          schedules = parts.schedules;
          zone = parts.zone;
        })) valid.policies;
    zones = all_weaker (zone_valid s) (zone_valid with_roles) s.zones.items (λ z there v.
        let parts = zone_parts s z v in
        zone_whole with_roles z (record {
          services = parts.services;
          tags = parts.tags;
          once = parts.once;
          levels = parts.levels;
          values = parts.values;
          subjects = subjects_exist_on (names_of s.roles.items) (names_of roles.items) z (zones z there) parts.subjects;
        })) valid.zones;
    apart = valid.apart;
    tag_rows = valid.tag_rows;
    time_zones = valid.time_zones;
    roles = ap is_none sound;
    definition_names = valid.definition_names;
    service_names = valid.service_names;
    zone_names = valid.zone_names;
    user_names = valid.user_names;
    policy_ids = valid.policy_ids;
    tag_row_ids = valid.tag_row_ids;
  }

-- ---- zones

module _ (s : State) (valid : IsValid s) (zones : Listed ZoneRow) where
  abbrev with_zones : State
  with_zones = record s { zones = zones }

  zones_kept : list_all (zone_valid s) zones.items ≡ true → are_apart s zones.items ≡ true → all_distinct (λ (a b : ZoneRow). bytes_eq b.name a.name) zones.items ≡ true
      → ((p : Policy) → Contains s.policies.items p → zone_fits s p ≡ true → policy_zone_fits (is_tag_service s p.service) p.service zones.items p ≡ true) → IsValid with_zones
  unfolding are_apart are_apart_for
  zones_kept rows apart names policies = record {
    definitions = valid.definitions;
    services = valid.services;
    policies = all_weaker (policy_valid s) (policy_valid with_zones) s.policies.items (λ p there v.
        let parts = policy_parts s p v in
        policy_whole with_zones p (record {
          suits = parts.suits;
          priority = parts.priority;
          subjects = parts.subjects;
          schedules = parts.schedules;
          zone = policies p there parts.zone;
        })) valid.policies;
    zones = rows;
    apart = apart;
    tag_rows = valid.tag_rows;
    time_zones = valid.time_zones;
    roles = valid.roles;
    definition_names = valid.definition_names;
    service_names = valid.service_names;
    zone_names = names;
    user_names = valid.user_names;
    policy_ids = valid.policy_ids;
    tag_row_ids = valid.tag_row_ids;
  }

-- ---- each command

-- what the crates below say of roles and zones
pub record Below : Type 0 where
  pub decided : (rows : List RoleRow) (test : RoleRow → Bool) (role : List ℕ) → IsTrue (leads rows test role) ↔ Leads rows test role
  pub in_lists : (rows : List RoleRow) → (fault_of rows ≡ None) ↔ AreSound rows
  pub may_be_put : (rows new : List RoleRow) (row : RoleRow) → fault_of rows ≡ None → IsPut rows row new → NamesThere new row → IsApart new row.name → fault_of new ≡ None
  pub may_go : (rows : List RoleRow) (role : List ℕ) → fault_of rows ≡ None → ((row : RoleRow) → Contains rows row → Contains row.roles.items role → row.name ≡ role)
      → fault_of (filter (λ (row : RoleRow). not (bytes_eq row.name role)) rows) ≡ None
  pub by_pairs : (service : List ℕ) (def : ServiceDef) (zones : List ZoneRow) → is_none (first_overlap service def zones) ≡ all_distinct (zones_overlap service def) zones

no_fault : (o : Option RoleFault) → is_none o ≡ true → o ≡ None
no_fault None h = refl
no_fault (Some f) h = absurd (false≢true h)

module _ (below : Below) where
  pub valid_after : (s : State) → IsValid s → IsOrderlyState s → (c : AdminCommand) → first_failing (command_rules s c) ≡ None → IsValid (after_command s c)
  unfolding are_apart are_apart_for
  valid_after s valid o (PutDef def) h = put_def_kept s def valid h
  valid_after s valid o (CreateService row) h = create_service_kept below.by_pairs s row valid h
  valid_after s valid o (UpdateService row) h = update_service_kept s row valid h
  valid_after s valid o (DeleteService name) h = delete_service_kept s name valid h
  valid_after s valid o (CreatePolicy p) h = record {
    definitions = valid.definitions;
    services = valid.services;
    policies = all_snoc (policy_valid s) s.policies.items (created_form s p) valid.policies (created_passes s valid.services p h);
    zones = valid.zones;
    apart = valid.apart;
    tag_rows = valid.tag_rows;
    time_zones = valid.time_zones;
    roles = valid.roles;
    definition_names = valid.definition_names;
    service_names = valid.service_names;
    zone_names = valid.zone_names;
    user_names = valid.user_names;
    policy_ids = policy_ids s o.policies o.given (CreatePolicy p);
    tag_row_ids = valid.tag_row_ids;
  }
  valid_after s valid o (UpdatePolicy p) h = record {
    definitions = valid.definitions;
    services = valid.services;
    policies = all_put (policy_valid s) (has_id p.id.0) (updated_form s p) s.policies.items valid.policies (updated_passes s valid.services p h);
    zones = valid.zones;
    apart = valid.apart;
    tag_rows = valid.tag_rows;
    time_zones = valid.time_zones;
    roles = valid.roles;
    definition_names = valid.definition_names;
    service_names = valid.service_names;
    zone_names = valid.zone_names;
    user_names = valid.user_names;
    policy_ids = policy_ids s o.policies o.given (UpdatePolicy p);
    tag_row_ids = valid.tag_row_ids;
  }
  valid_after s valid o (DeletePolicy id) h = record {
    definitions = valid.definitions;
    services = valid.services;
    policies = filter_all (λ p. not (has_id id.0 p)) (policy_valid s) (policy_valid s) (λ _ _ v. v) s.policies.items valid.policies;
    zones = valid.zones;
    apart = valid.apart;
    tag_rows = valid.tag_rows;
    time_zones = valid.time_zones;
    roles = valid.roles;
    definition_names = valid.definition_names;
    service_names = valid.service_names;
    zone_names = valid.zone_names;
    user_names = valid.user_names;
    policy_ids = policy_ids s o.policies o.given (DeletePolicy id);
    tag_row_ids = valid.tag_row_ids;
  }
  valid_after s valid o (GetPolicy id) h = valid
  valid_after s valid o (ListPolicies name) h = valid
  valid_after s valid o (PutRole row) h =
      roles_kept s valid (listed (put (is_role row.name) row s.roles.items)) (after_command s (PutRole row)).role_version
      (roles_after_put below.decided below.in_lists below.may_be_put below.may_go s row (no_fault (fault_of s.roles.items) valid.roles) h)
      (λ p there name named is. among_put row s.roles.items name is) (λ z there name named is. among_put row s.roles.items name is)
  valid_after s valid o (DeleteRole name) h =
      let unused = passed_at (command_rules s (DeleteRole name)) h 1 (O4, role_is_unused s name) refl in
      let policies = not (list_any (policy_names_role name) s.policies.items) in
      let zones = not (list_any (zone_names_role name) s.zones.items) in
      let rest = (and_parts (not (list_any (other_names_role name) s.roles.items)) (policies && zones) unused).1 in
      let none = and_parts policies zones rest in
      roles_kept s valid (listed (without (is_role name) s.roles.items)) (after_command s (DeleteRole name)).role_version
      (roles_after_delete below.decided below.in_lists below.may_be_put below.may_go s name (no_fault (fault_of s.roles.items) valid.roles) h)
      (λ p there other named is. among_left s.roles.items name other (named_other other name (λ n. policy_names_role n p) named (none_passes (policy_names_role name) s.policies.items (not_true (list_any (policy_names_role name) s.policies.items) none.0) p there)) is)
      (λ z there other named is. among_left s.roles.items name other (named_other other name (λ n. zone_names_role n z) named (none_passes (zone_names_role name) s.zones.items (not_true (list_any (zone_names_role name) s.zones.items) none.1) z there)) is)
  valid_after s valid o (PutZone z) h =
      zones_kept s valid (listed (put (is_zone z.name) z s.zones.items))
      (all_put (zone_valid s) (is_zone z.name) z s.zones.items valid.zones (zone_passes s z h))
      (passed_at (command_rules s (PutZone z)) h 5 (Z6, zone_is_apart s z) refl)
      (distinct_put (λ (r : ZoneRow). r.name) (λ a b. bytes_eq b a) (λ a b. text_turn a b) (is_zone z.name) z (λ y is. sym ((bytes_eq-Decides y.name z.name).0 is)) (λ y. refl) s.zones.items valid.zone_names)
      (λ p there fits. zone_fits_put s z h p there fits)
  valid_after s valid o (DeleteZone name) h =
      zones_kept s valid (listed (without (is_zone name) s.zones.items))
      (filter_all (λ z. not (is_zone name z)) (zone_valid s) (zone_valid s) (λ _ _ v. v) s.zones.items valid.zones)
      (apart_left below.by_pairs s (λ z. not (is_zone name z)) valid.apart)
      (distinct_filtered (λ (a b : ZoneRow). bytes_eq b.name a.name) (λ z. not (is_zone name z)) s.zones.items valid.zone_names)
      (λ p there fits. zone_fits_left s name h p there fits)
  valid_after s valid o (PutTags id row) h = record {
    definitions = valid.definitions;
    services = valid.services;
    policies = valid.policies;
    zones = valid.zones;
    apart = valid.apart;
    tag_rows = all_put (tag_row_valid s) (has_row_id id) (stored_row id row) s.tag_rows.items valid.tag_rows (row_passes s id row h);
    time_zones = valid.time_zones;
    roles = valid.roles;
    definition_names = valid.definition_names;
    service_names = valid.service_names;
    zone_names = valid.zone_names;
    user_names = valid.user_names;
    policy_ids = valid.policy_ids;
    tag_row_ids = row_ids s o.rows (PutTags id row);
  }
  valid_after s valid o (DeleteTags id) h = record {
    definitions = valid.definitions;
    services = valid.services;
    policies = valid.policies;
    zones = valid.zones;
    apart = valid.apart;
    tag_rows = filter_all (λ r. not (has_row_id id r)) (tag_row_valid s) (tag_row_valid s) (λ _ _ v. v) s.tag_rows.items valid.tag_rows;
    time_zones = valid.time_zones;
    roles = valid.roles;
    definition_names = valid.definition_names;
    service_names = valid.service_names;
    zone_names = valid.zone_names;
    user_names = valid.user_names;
    policy_ids = valid.policy_ids;
    tag_row_ids = row_ids s o.rows (DeleteTags id);
  }
  valid_after s valid o (PutUser row) h = record {
    definitions = valid.definitions;
    services = valid.services;
    policies = valid.policies;
    zones = valid.zones;
    apart = valid.apart;
    tag_rows = valid.tag_rows;
    time_zones = valid.time_zones;
    roles = valid.roles;
    definition_names = valid.definition_names;
    service_names = valid.service_names;
    zone_names = valid.zone_names;
    user_names = distinct_put (λ (r : UserRow). r.name) (λ a b. bytes_eq b a) (λ a b. text_turn a b) (is_user row.name) row (λ y is. sym ((bytes_eq-Decides y.name row.name).0 is)) (λ y. refl) s.users.items valid.user_names;
    policy_ids = valid.policy_ids;
    tag_row_ids = valid.tag_row_ids;
  }
  valid_after s valid o (DeleteUser name) h = record {
    definitions = valid.definitions;
    services = valid.services;
    policies = valid.policies;
    zones = valid.zones;
    apart = valid.apart;
    tag_rows = valid.tag_rows;
    time_zones = valid.time_zones;
    roles = valid.roles;
    definition_names = valid.definition_names;
    service_names = valid.service_names;
    zone_names = valid.zone_names;
    user_names = distinct_filtered (λ (a b : UserRow). bytes_eq b.name a.name) (λ r. not (is_user name r)) s.users.items valid.user_names;
    policy_ids = valid.policy_ids;
    tag_row_ids = valid.tag_row_ids;
  }
  valid_after s valid o (Download service pf tf rf) h = valid

  -- ---- histories

  pub step_valid : (a : Administration) (ask : Ask) → IsOrderly a → IsValid a.state → IsValid (step a ask).0.state
  step_valid a ask o valid = go (fault a.state ask) refl
    where
      go : (r : Option Rule) → fault a.state ask ≡ r → IsValid (step_by r a ask).0.state
      go None none = counted_valid (after_command a.state ask.command) (valid_after a.state valid o.state ask.command (passed a.state ask none).rules)
      go (Some rule) is = counted_valid a.state valid

  pub always_valid : (a : Administration) (h : List (Entry Ask AdminReply)) → IsOrderly a → IsValid a.state → IsValid (state_after step a h).state
  always_valid a [] o valid = valid
  always_valid a (e ∷ h) o valid = always_valid (step a e.ask).0 h (step_orderly a e.ask o) (step_valid a e.ask o valid)

  -- the law of sound views
  pub views_sound : (start : Administration) (h : List (Entry Ask AdminReply)) → IsStart start → (k : ℕ) → k ≤ length h → k < 2 ^ 62 → (service : List ℕ) (f : Facts) → view (state_at step start h k) service ≡ Some f → sound f ≡ true
  views_sound start h is k low few service f viewed =
      let a = state_at step start h k in
      let o = at_orderly start h is k in
      let none = is.count in
      let many = length-take-le k h low in
      let count = count_after start (take k h) (omega (arith, none)) in
      view_sound a service f (always_valid start (take k h) (start_orderly start is) is.valid.valid) o.state.given
      (λ log found.
      let both = and_parts (leb log.policy_version.0 (a.state.count + 1)) (leb log.tag_version.0 (a.state.count + 1)) (all_holds (is_counted a.state.count) a.logs o.counted log (find_contained (is_log_of service) a.logs log found).0) in
      let policies = leb-true log.policy_version.0 (a.state.count + 1) both.0 in let tags = leb-true log.tag_version.0 (a.state.count + 1) both.1 in
      (omega (arith, policies, count, none, many, few), omega (arith, tags, count, none, many, few)))
      (let roles = o.state.roles in omega (arith, roles, count, none, many, few)) viewed

  -- ---- everything that an administration keeps

  pub step_kept : (a : Administration) (ask : Ask) → IsOrderly a → IsKept a.state → IsKept (step a ask).0.state
  step_kept a ask o kept = go (fault a.state ask) refl
    where
      both : (list_any (is_service a.state.plugin) a.state.services.items ≡ true) × (plugin_fits a.state ≡ true)
      both = and_parts (list_any (is_service a.state.plugin) a.state.services.items) (plugin_fits a.state) kept.plugin

      go : (r : Option Rule) → fault a.state ask ≡ r → IsKept (step_by r a ask).0.state
      go None none =
          let c = ask.command in
          let later = after_command a.state c in
          let rules = passed a.state ask none in
          let next = orderly_after a.state o.state c rules in record {
            valid = counted_valid later (valid_after a.state kept.valid o.state c rules.rules);
            single = single_counted later (single_after a.state kept.valid.services kept.single c rules.rules);
            given = next.given;
            tag_rows_given = rows_given_after a.state kept.tag_rows_given c rules.rules;
            next_id = and_from (int_lt (pos 0) later.next_id) _ next.positive next.next;
            plugin = and_from (list_any (is_service later.plugin) later.services.items) (plugin_fits later) next.plugin (plugin_fits_after a.state both.0 both.1 c rules.rules);
          }
      go (Some rule) is = let next = orderly_refused a.state o.state in record {
        valid = counted_valid a.state kept.valid;
        single = single_counted a.state kept.single;
        given = kept.given;
        tag_rows_given = kept.tag_rows_given;
        next_id = and_from (int_lt (pos 0) a.state.next_id) _ next.positive next.next;
        plugin = kept.plugin;
      }

  pub always_kept : (a : Administration) (h : List (Entry Ask AdminReply)) → IsOrderly a → IsKept a.state → IsKept (state_after step a h).state
  always_kept a [] o kept = kept
  always_kept a (e ∷ h) o kept = always_kept (step a e.ask).0 h (step_orderly a e.ask o) (step_kept a e.ask o kept)

  pub states_kept : (start : Administration) (h : List (Entry Ask AdminReply)) → IsStart start → (k : ℕ) → IsKept (state_at step start h k).state
  states_kept start h is k = always_kept start (take k h) (start_orderly start is) is.valid
