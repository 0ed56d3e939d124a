-- For proofs alone: a configuration that is put row by row, and the start to which it leads.
use Rattle.std.proofs.Common.{◌≡◌, ◌+◌, ◌∙◌, ◌&&◌, ◌||◌, ℕ, pos, int_lt, Bool, true, not, cond, is_none, List, [], ◌∷◌, ◌++◌, filter, map, Option, Some, None, refl, ap, sym, subst}
use Rattle.std.specs.List.{find, list_all, list_any}
use Rattle.std.specs.Option.{option_map, option_or}
use Rattle.std.specs.Ordering.{int_eq}
use Rattle.std.specs.Str.{bytes_eq}
use Rattle.std.proofs.lemmas.Bool.{and_from, and_parts, false≢true}
use Rattle.std.proofs.lemmas.Slice.Eq.{bytes_eq-Decides}
use Rattle.rg_base.proofs.Lists.{all_from, among_mapped}
use Rattle.rg_base.proofs.Names.{known, none_from}
use Rattle.rg_base.specs.Listed.{Listed, listed}
use Rattle.rg_base.specs.Places.{place_in}
use Rattle.rg_base.specs.Texts.{all_distinct, is_among, is_name}
use Rattle.rg_policy.specs.declared.policy.Policy.{Policy}
use Rattle.rg_policy.specs.declared.policy.TimeZoneRow.{TimeZoneRow}
use Rattle.rg_defs.specs.Rules.{tag_name}
use Rattle.rg_defs.specs.declared.service_def.ServiceDef.{ServiceDef}
use Rattle.rg_resmatch.specs.Rules.{tagged_fit}
use Rattle.rg_roles.specs.Faults.{fault_of}
use Rattle.rg_roles.specs.declared.row.RoleRow.{RoleRow}
use Rattle.rg_tags.specs.declared.row.TagRow.{TagRow}
use Rattle.rg_zone_rules.specs.Overlap.{first_overlap, zones_overlap}
use Rattle.rg_zone_rules.specs.declared.row.ZoneRow.{ZoneRow}
use Rattle.rg_cmd.specs.Lookups.{is_service, is_user}
use Rattle.rg_cmd.specs.declared.ask.AdminCommand.{AdminCommand}
use Rattle.rg_cmd.specs.declared.ask.AdminCommand.TheVariants.{CreateService, PutDef, PutUser}
use Rattle.rg_cmd.specs.declared.config.Config.{Config}
use Rattle.rg_cmd.specs.declared.rule.Rule.{Rule}
use Rattle.rg_cmd.specs.declared.rule.Rule.TheVariants.{C1, C2, C6, U2}
use Rattle.rg_cmd.specs.declared.state.ServiceRow.{ServiceRow}
use Rattle.rg_cmd.specs.declared.state.State.{State}
use Rattle.rg_cmd.specs.declared.state.UserRow.{UserRow}
use Rattle.rg_validate.specs.Definitions.{definition_rules, definition_suits, names_with, plugin_fits, policy_suits, service_name_is_new, zones_suit}
use Rattle.rg_validate.specs.Failing.{Tested, first_failing}
use Rattle.rg_validate.specs.Rules.{command_rules, service_exists}
use Rattle.rg_validate.specs.Users.{time_zones_read}
use Rattle.rg_validate.specs.Valid.{IsKept, IsValid, is_given, policy_is_single, policy_valid}
use Rattle.rg_validate.specs.Zones.{are_apart, are_apart_for}
use Rattle.rg_admin_laws.specs.Changes.{after_command}
use Rattle.rg_admin_laws.specs.Starts.{IsStart, new_logs}
use Rattle.rg_admin_laws.proofs.KeptDefs.{put_def_kept}
use Rattle.rg_admin_laws.proofs.KeptRoles.{text_turn}
use Rattle.rg_admin_laws.proofs.KeptServices.{create_service_kept}
use Rattle.rg_admin_laws.proofs.Lists.{case, distinct_put, not_true}
use Rattle.rg_admin_laws.proofs.Passing.{passed_at}
use Rattle.rg_admin.specs.Puts.{IsPut, IsStarting, is_put, rows_put}
use Rattle.rg_admin.specs.Reached.{IsPacked}
use Rattle.rg_admin.specs.Starting.{IsCause, bare_state, last_rules, put_all, put_fault, puts, start_rules}
use Rattle.rg_admin.specs.Tight.{IsTight, IsTightList}
use Rattle.rg_admin.specs.declared.start.StartFault.{StartFault}
use Rattle.rg_admin.specs.declared.start.StartFault.TheVariants.{Rule as Breaks, NoMemory}

-- ---- what is put before the rest

pub put_all_both : (s : State) (xs ys : List AdminCommand) → put_all s (xs ++ ys) ≡ put_all (put_all s xs) ys
put_all_both s [] ys = refl
put_all_both s (x ∷ xs) ys = put_all_both (after_command s x) xs ys

or_grouped : {X : Type 0} (a b c : Option X) → option_or (option_or a b) c ≡ option_or a (option_or b c)
or_grouped None b c = refl
or_grouped (Some x) b c = refl

pub put_fault_both : (s : State) (xs ys : List AdminCommand) → put_fault s (xs ++ ys) ≡ option_or (put_fault s xs) (put_fault (put_all s xs) ys)
put_fault_both s [] ys = refl
put_fault_both s (x ∷ xs) ys =
    let first = first_failing (start_rules s x) in
    let later = after_command s x in
    ap (option_or first) (put_fault_both later xs ys) ∙ sym (or_grouped first (put_fault later xs) (put_fault (put_all later xs) ys))

pub cause_first : (f : StartFault) (a b : Option Rule) → IsCause f a → IsCause f (option_or a b)
cause_first (Breaks rule) a b h = ap (λ o. option_or o b) h
cause_first NoMemory a b h = h

pub cause_later : (f : StartFault) (a b : Option Rule) → a ≡ None → IsCause f b → IsCause f (option_or a b)
cause_later (Breaks rule) a b none h = ap (λ o. option_or o b) none ∙ h
cause_later NoMemory a b none h = h

pub put_both : (s t u : State) (xs ys : List AdminCommand) → IsPut s xs t → IsPut t ys u → IsPut s (xs ++ ys) u
put_both s t u xs ys first then = record {
  fault = put_fault_both s xs ys ∙ ap (λ o. option_or o (put_fault (put_all s xs) ys)) first.fault ∙ subst (λ v. put_fault v ys ≡ None) first.led then.fault;
  led = then.led ∙ ap (λ v. put_all v ys) first.led ∙ sym (put_all_both s xs ys);
}

-- the first of two lists to fail is the cause, and the second where the first is put
pub fails_first : (f : StartFault) (s : State) (xs ys : List AdminCommand) → IsCause f (put_fault s xs) → IsCause f (put_fault s (xs ++ ys))
fails_first f s xs ys h = subst (IsCause f) (sym (put_fault_both s xs ys)) (cause_first f (put_fault s xs) (put_fault (put_all s xs) ys) h)

pub fails_later : (f : StartFault) (s t : State) (xs ys : List AdminCommand) → IsPut s xs t → IsCause f (put_fault t ys) → IsCause f (put_fault s (xs ++ ys))
fails_later f s t xs ys first h =
    subst (IsCause f) (sym (put_fault_both s xs ys))
    (cause_later f (put_fault s xs) (put_fault (put_all s xs) ys) first.fault (subst (λ v. IsCause f (put_fault v ys)) first.led h))

-- ---- one by one

-- a command that passes leads to the state of which the others are asked
pub passes_one : (s t : State) (c : AdminCommand) (more : List AdminCommand) → first_failing (start_rules s c) ≡ None → t ≡ after_command s c → put_fault s (c ∷ more) ≡ put_fault t more
passes_one s t c more none is = ap (λ o. option_or o (put_fault (after_command s c) more)) none ∙ ap (λ v. put_fault v more) (sym is)

pub leads_one : (s t : State) (c : AdminCommand) (more : List AdminCommand) → t ≡ after_command s c → put_all s (c ∷ more) ≡ put_all t more
leads_one s t c more is = ap (λ v. put_all v more) (sym is)

-- ---- the rows of a configuration

grouped : {X Y : Type 0} (f : X → Y) (xs ys : List X) (zs : List Y) → map f xs ++ (map f ys ++ zs) ≡ map f (xs ++ ys) ++ zs
grouped f [] ys zs = refl
grouped f (x ∷ xs) ys zs = ap (λ l. f x ∷ l) (grouped f xs ys zs)

pub puts_are : (c : Config) (defs : List ServiceDef) (tags others : List ServiceRow) (users : List UserRow) → defs ≡ c.defs.items
    → tags ≡ filter (λ (row : ServiceRow). bytes_eq row.def tag_name) c.services.items → others ≡ filter (λ (row : ServiceRow). not (bytes_eq row.def tag_name)) c.services.items
    → users ≡ c.users.items → rows_put defs tags others users ≡ puts c
puts_are c defs tags others users d t o u =
    let first : List ServiceRow = filter (λ (row : ServiceRow). bytes_eq row.def tag_name) c.services.items in
    let then : List ServiceRow = filter (λ (row : ServiceRow). not (bytes_eq row.def tag_name)) c.services.items in
    (λ i. rows_put (d i) (t i) (o i) (u i)) ∙ ap (λ l. map PutDef c.defs.items ++ l) (grouped CreateService first then (map PutUser c.users.items))

-- ---- C1

more_passed : (rules : List Tested) (t : Tested) → t.1 ≡ true → first_failing (rules ++ t ∷ []) ≡ first_failing rules
more_passed [] t h = ap (λ b. option_map (λ (r : Tested). r.0) (cond (not b) (Some t) None)) h
more_passed (r ∷ rules) t h =
    case (λ b. option_map (λ (q : Tested). q.0) (cond (not b) (Some r) (find (λ (q : Tested). not q.1) (rules ++ t ∷ []))) ≡ option_map (λ (q : Tested). q.0) (cond (not b) (Some r) (find (λ (q : Tested). not q.1) rules))) r.1
    (λ _. more_passed rules t h) (λ _. refl)

-- there is nothing that a definition could fail to suit
suits : (s : State) → IsStarting s → (def : ServiceDef) → definition_suits s def ≡ true
unfolding definition_suits
suits s h def =
    let names = names_with s def.name in
    let policy = λ (p : Policy). not (is_among p.service names) || policy_suits def p in
    let row = λ (r : TagRow). not (is_among r.service names) || tagged_fit def r.resources.items in
    and_from (list_all policy s.policies.items) (list_all row s.tag_rows.items && list_all (zones_suit def s.zones.items) names)
    (subst (λ (l : Listed Policy). list_all policy l.items ≡ true) (sym h.policies) refl)
    (and_from (list_all row s.tag_rows.items) (list_all (zones_suit def s.zones.items) names)
    (subst (λ (l : Listed TagRow). list_all row l.items ≡ true) (sym h.tag_rows) refl)
    (all_from (zones_suit def s.zones.items) names (λ n _. subst (λ (l : Listed ZoneRow). zones_suit def l.items n ≡ true) (sym h.zones) refl)))

pub same_rules : (s : State) → IsStarting s → (c : AdminCommand) → first_failing (command_rules s c) ≡ first_failing (start_rules s c)
same_rules s h (PutDef def) = more_passed (definition_rules def) (C1, definition_suits s def) (suits s h def)
same_rules s h c = refl

-- a service that passes has a name without a place
pub name_is_new : (s : State) (row : ServiceRow) → first_failing (command_rules s (CreateService row)) ≡ None → place_in (map (λ (r : ServiceRow). r.name) s.services.items) row.name ≡ None
name_is_new s row passed =
    let names = map (λ (r : ServiceRow). r.name) s.services.items in
    let parts = and_parts (is_name row.name) (not (list_any (is_service row.name) s.services.items))
    (passed_at (command_rules s (CreateService row)) passed 1 (C2, service_name_is_new s row.name) refl) in
    none_from (place_in names row.name)
    (sym (known names row.name) ∙ among_mapped (λ (r : ServiceRow). r.name) row.name s.services.items ∙ not_true (list_any (is_service row.name) s.services.items) parts.1)

-- ---- each row

pub bare_starts : (c : Config) → IsStarting (bare_state c)
unfolding are_apart are_apart_for fault_of
bare_starts c = record {
  valid = record {
    definitions = refl;
    services = refl;
    policies = refl;
    zones = refl;
    apart = refl;
    tag_rows = refl;
    time_zones = refl;
    roles = refl;
    definition_names = refl;
    service_names = refl;
    zone_names = refl;
    user_names = refl;
    policy_ids = refl;
    tag_row_ids = refl;
  };
  policies = refl;
  zones = refl;
  roles = refl;
  tag_rows = refl;
  next_id = refl;
  count = refl;
  role_version = refl;
  defs = refl;
  services = refl;
  users = refl;
}

none_tight : {X : Type 0} (same : X → X → Bool) (l : Listed X) → l ≡ listed [] → IsTightList same l
none_tight same l is = subst (IsTightList same) (sym is) (record { spare = refl; distinct = refl })

pub starting_tight : (s : State) → IsStarting s → IsTight s
starting_tight s h = record {
  users = record { spare = h.users; distinct = h.valid.user_names };
  defs = record { spare = h.defs; distinct = h.valid.definition_names };
  services = record { spare = h.services; distinct = h.valid.service_names };
  policies = none_tight (λ (p q : Policy). int_eq p.id.0 q.id.0) s.policies h.policies;
  zones = none_tight (λ (a b : ZoneRow). bytes_eq b.name a.name) s.zones h.zones;
  roles = none_tight (λ (a b : RoleRow). bytes_eq b.name a.name) s.roles h.roles;
  tag_rows = none_tight (λ (a b : TagRow). int_eq a.id b.id) s.tag_rows h.tag_rows;
}

module _ (by_pairs : (service : List ℕ) (def : ServiceDef) (zones : List ZoneRow) → is_none (first_overlap service def zones) ≡ all_distinct (zones_overlap service def) zones) where
  put_valid : (s : State) → IsValid s → (c : AdminCommand) → is_put c ≡ true → first_failing (command_rules s c) ≡ None → IsValid (after_command s c)
  unfolding are_apart are_apart_for
  put_valid s valid (PutDef def) put h = put_def_kept s def valid h
  put_valid s valid (CreateService row) put h = create_service_kept by_pairs s row valid h
  put_valid s valid (PutUser row) put h = record {
    definitions = valid.definitions;
    services = valid.services;
    policies = valid.policies;
    zones = valid.zones;
    apart = valid.apart;
    tag_rows = valid.tag_rows;
    time_zones = valid.time_zones;
    roles = valid.roles;
    definition_names = valid.definition_names;
    service_names = valid.service_names;
    zone_names = valid.zone_names;
    user_names = distinct_put (λ (r : UserRow). r.name) (λ a b. bytes_eq b a) (λ a b. text_turn a b) (is_user row.name) row (λ y is. sym ((bytes_eq-Decides y.name row.name).0 is)) (λ y. refl) s.users.items valid.user_names;
    policy_ids = valid.policy_ids;
    tag_row_ids = valid.tag_row_ids;
  }
  put_valid s valid c put h = absurd (false≢true put)

  pub put_starts : (s : State) → IsStarting s → (c : AdminCommand) → is_put c ≡ true → first_failing (command_rules s c) ≡ None → IsStarting (after_command s c)
  put_starts s h c put passed = go c put (put_valid s h.valid c put passed)
    where
      go : (c : AdminCommand) → is_put c ≡ true → IsValid (after_command s c) → IsStarting (after_command s c)
      go (PutDef def) put valid = record { valid = valid; policies = h.policies; zones = h.zones; roles = h.roles; tag_rows = h.tag_rows; next_id = h.next_id; count = h.count; role_version = h.role_version; defs = refl; services = h.services; users = h.users }
      go (CreateService row) put valid = record { valid = valid; policies = h.policies; zones = h.zones; roles = h.roles; tag_rows = h.tag_rows; next_id = h.next_id; count = h.count; role_version = h.role_version; defs = h.defs; services = refl; users = h.users }
      go (PutUser row) put valid = record { valid = valid; policies = h.policies; zones = h.zones; roles = h.roles; tag_rows = h.tag_rows; next_id = h.next_id; count = h.count; role_version = h.role_version; defs = h.defs; services = h.services; users = refl }
      go c put valid = absurd (false≢true put)

-- ---- the start

module _ (s : State) (h : IsStarting s) (rows : Listed TimeZoneRow) (passed : first_failing (last_rules (record s { time_zones = rows })) ≡ None) where
  abbrev started : State
  started = record s { time_zones = rows }

  no_policies : (test : Policy → Bool) → list_all test s.policies.items ≡ true
  no_policies test = subst (λ (l : Listed Policy). list_all test l.items ≡ true) (sym h.policies) refl

  started_valid : IsValid started
  unfolding are_apart are_apart_for last_rules
  started_valid = record {
    definitions = h.valid.definitions;
    services = h.valid.services;
    policies = no_policies (policy_valid started);
    zones = h.valid.zones;
    apart = h.valid.apart;
    tag_rows = h.valid.tag_rows;
    time_zones = passed_at (last_rules started) passed 0 (U2, time_zones_read started) refl;
    roles = h.valid.roles;
    definition_names = h.valid.definition_names;
    service_names = h.valid.service_names;
    zone_names = h.valid.zone_names;
    user_names = h.valid.user_names;
    policy_ids = h.valid.policy_ids;
    tag_row_ids = h.valid.tag_row_ids;
  }

  started_kept : IsKept started
  unfolding last_rules
  started_kept = record {
    valid = started_valid;
    single = no_policies (policy_is_single started);
    given = no_policies (is_given started);
    tag_rows_given = subst (λ (l : Listed TagRow). list_all (λ (row : TagRow). int_lt (pos 0) row.id) l.items ≡ true) (sym h.tag_rows) refl;
    next_id = ap (λ n. int_lt (pos 0) n && int_lt n (pos (s.count + 2))) h.next_id ∙ ap (λ n. int_lt (pos 1) (pos (n + 2))) h.count;
    plugin = and_from _ _ (passed_at (last_rules started) passed 1 (service_exists started s.plugin) refl) (passed_at (last_rules started) passed 2 (C6, plugin_fits started) refl);
  }

  pub is_packed : IsPacked started
  is_packed = record {
    users = h.users;
    defs = h.defs;
    services = h.services;
    policies = ap (λ (l : Listed Policy). l.spare) h.policies;
    zones = ap (λ (l : Listed ZoneRow). l.spare) h.zones;
    roles = ap (λ (l : Listed RoleRow). l.spare) h.roles;
    tag_rows = ap (λ (l : Listed TagRow). l.spare) h.tag_rows;
  }

  pub is_start : IsStart (record { state = started; logs = new_logs s.services.items })
  is_start = record {
    valid = started_kept;
    policies = h.policies;
    zones = h.zones;
    roles = h.roles;
    tag_rows = h.tag_rows;
    next_id = h.next_id;
    count = h.count;
    role_version = h.role_version;
    logs = refl;
  }
