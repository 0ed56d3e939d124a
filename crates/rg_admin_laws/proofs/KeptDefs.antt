-- For proofs alone: a definition that is put keeps a state valid.
use Rattle.std.proofs.Common.{◌≡◌, ◌⊎◌, ◌&&◌, ◌||◌, ℕ, Bool, true, false, not, cond, is_none, map, Contains, List, [], ◌∷◌, ◌++◌, Option, Some, None, refl, ap, sym, ◌∙◌, subst, inl, inr}
use Rattle.std.specs.List.{filter, find, list_all, list_any}
use Rattle.std.specs.Option.{option_and_then, option_map}
use Rattle.std.specs.Str.{bytes_eq}
use Rattle.std.proofs.lemmas.Bool.{and_parts, false≢true}
use Rattle.std.proofs.lemmas.Option.{none-some}
use Rattle.std.proofs.lemmas.Slice.Eq.{bytes_eq-Decides}
use Rattle.rg_base.proofs.Lists.{Contains-filter, all_holds, among_holds, among_mapped, any_from, find_contained}
use Rattle.rg_base.specs.Texts.{is_among}
use Rattle.rg_policy.specs.declared.policy.Policy.{Policy}
use Rattle.rg_defs.specs.Rules.{def_fault, rules_of}
use Rattle.rg_defs.specs.declared.service_def.ServiceDef.{ServiceDef}
use Rattle.rg_resmatch.specs.Rules.{tagged_fit}
use Rattle.rg_tags.specs.declared.row.TagRow.{TagRow}
use Rattle.rg_zone_rules.specs.Overlap.{first_overlap}
use Rattle.rg_zone_rules.specs.Rules.{all_maps_fit, entry_levels_fit, maps_fit, zone_levels_fit, zone_values_fit}
use Rattle.rg_zone_rules.specs.Zones.{is_for}
use Rattle.rg_zone_rules.specs.declared.row.ZoneRow.{ZoneRow}
use Rattle.rg_zone_rules.specs.declared.row.ZoneService.{ZoneService}
use Rattle.rg_cmd.specs.Lists.{put}
use Rattle.rg_cmd.specs.Lookups.{def_at, def_of, has_def, is_def, is_service, service_at}
use Rattle.rg_cmd.specs.declared.ask.AdminCommand.TheVariants.{PutDef}
use Rattle.rg_cmd.specs.declared.rule.Rule.TheVariants.{C1}
use Rattle.rg_cmd.specs.declared.state.ServiceRow.{ServiceRow}
use Rattle.rg_cmd.specs.declared.state.State.{State}
use Rattle.rg_validate.specs.Definitions.{definition_rule, definition_rules, definition_suits, names_with, policy_suits, under, zones_suit}
use Rattle.rg_validate.specs.Failing.{Tested, first_failing}
use Rattle.rg_validate.specs.Rules.{command_rules}
use Rattle.rg_validate.specs.Valid.{IsValid, definition_valid, policy_valid, tag_row_valid, zone_valid}
use Rattle.rg_validate.specs.Zones.{are_apart, are_apart_for}
use Rattle.rg_admin_laws.specs.Changes.{after_command}
use Rattle.rg_admin_laws.proofs.KeptRoles.{text_turn}
use Rattle.rg_admin_laws.proofs.Lists.{all_put, all_weaker, case, distinct_put, find_own, replaced}
use Rattle.rg_admin_laws.proofs.Moves.{def_kept, own_name}
use Rattle.rg_admin_laws.proofs.Orderly.{services_stay}
use Rattle.rg_admin_laws.proofs.Parts.{policy_parts, policy_whole, row_parts, row_whole, zone_parts, zone_whole}
use Rattle.rg_admin_laws.proofs.Passing.{none_of_both, passed_first}

-- ---- S1 to S8

none_numbered : (rules : List (ℕ × Bool)) → first_failing (map (λ (r : ℕ × Bool). (definition_rule r.0, r.1)) rules) ≡ None → option_map (λ (r : ℕ × Bool). r.0) (find (λ (r : ℕ × Bool). not r.1) rules) ≡ None
none_numbered [] h = refl
none_numbered (r ∷ rules) h =
    case (λ b. option_map (λ (t : Tested). t.0) (cond (not b) (Some (definition_rule r.0, r.1)) (find (λ (t : Tested). not t.1) (map (λ (q : ℕ × Bool). (definition_rule q.0, q.1)) rules))) ≡ None
    → option_map (λ (q : ℕ × Bool). q.0) (cond (not b) (Some r) (find (λ (q : ℕ × Bool). not q.1) rules)) ≡ None) r.1
    (λ _ rest. none_numbered rules rest) (λ _ bad. absurd (none-some (definition_rule r.0) (sym bad))) h

definition_passes : (def : ServiceDef) → first_failing (definition_rules def) ≡ None → definition_valid def ≡ true
unfolding def_fault
definition_passes def h = ap is_none (none_numbered (rules_of def) h)

-- ---- the look-up of the definition

find_new : {X : Type 0} (same : X → Bool) (x : X) → same x ≡ true → (xs : List X) → list_any same xs ≡ false → find same (xs ++ x ∷ []) ≡ Some x
find_new same x its [] h = ap (λ b. cond b (Some x) None) its
find_new same x its (y ∷ xs) h =
    case (λ b. same y ≡ b → (b || list_any same xs) ≡ false → cond b (Some y) (find same (xs ++ x ∷ [])) ≡ Some x) (same y)
    (λ _ _ bad. absurd (false≢true (sym bad))) (λ _ _ rest. find_new same x its xs rest) refl h

find_put_own : {X : Type 0} (same : X → Bool) (x : X) → same x ≡ true → (xs : List X) → find same (put same x xs) ≡ Some x
find_put_own same x its xs = case (λ b. list_any same xs ≡ b → find same (cond b (replaced same x xs) (xs ++ x ∷ [])) ≡ Some x) (list_any same xs)
    (λ _ some. find_own same x its xs some) (λ _ none. find_new same x its xs none) refl

module _ (s : State) (def : ServiceDef) (valid : IsValid s) (h : first_failing (command_rules s (PutDef def)) ≡ None) where
  abbrev later : State
  later = after_command s (PutDef def)

  abbrev names : List (List ℕ)
  names = names_with s def.name

  -- a service has the new definition, or the one that it had
  def_cases : (x : List ℕ) → ((def_of later x ≡ Some def) × (is_among x names ≡ true)) ⊎ (def_of later x ≡ def_of s x)
  def_cases x = go (service_at s x) refl
    where
      go : (o : Option ServiceRow) → service_at s x ≡ o → ((def_of later x ≡ Some def) × (is_among x names ≡ true)) ⊎ (def_of later x ≡ def_of s x)
      go None none = inr (ap (option_and_then (λ (row : ServiceRow). def_at later row.def)) none ∙ sym (ap (option_and_then (λ (row : ServiceRow). def_at s row.def)) none))
      go (Some row) found = case (λ b. bytes_eq row.def def.name ≡ b → ((def_of later x ≡ Some def) × (is_among x names ≡ true)) ⊎ (def_of later x ≡ def_of s x)) (bytes_eq row.def def.name)
          (λ _ is.
          let there = find_contained (is_service x) s.services.items row found in
          inl (
            ap (option_and_then (λ (r : ServiceRow). def_at later r.def)) found ∙ ap (def_at later) ((bytes_eq-Decides row.def def.name).0 is) ∙ find_put_own (is_def def.name) def (own_name def.name) s.defs.items,
            among_mapped (λ (r : ServiceRow). r.name) x (filter (λ (r : ServiceRow). bytes_eq r.def def.name) s.services.items)
                ∙ any_from (λ (r : ServiceRow). bytes_eq r.name x) (filter (λ (r : ServiceRow). bytes_eq r.def def.name) s.services.items) row
                (Contains-filter (λ (r : ServiceRow). bytes_eq r.def def.name) s.services.items row there.0 is) there.1,
          ))
          (λ _ other. inr (def_kept s def (service_at s x) (ap (has_def def.name) found ∙ other)))
          refl

  rules : (first_failing (definition_rules def) ≡ None) × (first_failing ((C1, definition_suits s def) ∷ []) ≡ None)
  rules = none_of_both (definition_rules def) ((C1, definition_suits s def) ∷ []) h

  -- C1, one by one
  record Suits : Type 0 where
    pub policies : list_all (λ (p : Policy). not (is_among p.service names) || policy_suits def p) s.policies.items ≡ true
    pub rows : list_all (λ (row : TagRow). not (is_among row.service names) || tagged_fit def row.resources.items) s.tag_rows.items ≡ true
    pub zones : list_all (zones_suit def s.zones.items) names ≡ true

  suits : Suits
  unfolding definition_suits
  suits =
      let policies = list_all (λ (p : Policy). not (is_among p.service names) || policy_suits def p) s.policies.items in
      let rows = list_all (λ (row : TagRow). not (is_among row.service names) || tagged_fit def row.resources.items) s.tag_rows.items in
      let zones = list_all (zones_suit def s.zones.items) names in
      let a = and_parts policies (rows && zones) (passed_first (C1, definition_suits s def) [] rules.1).0 in
      let b = and_parts rows zones a.1 in
      record { policies = a.0; rows = b.0; zones = b.1 }

  asked : (b c : Bool) → (not b || c) ≡ true → b ≡ true → c ≡ true
  asked true c h is = h
  asked false c h is = absurd (false≢true is)

  policy_on : (p : Policy) → Contains s.policies.items p → policy_valid s p ≡ true → policy_valid later p ≡ true
  policy_on p there v =
      let parts = policy_parts s p v in
      policy_whole later p (record {
        suits = elim (def_cases p.service) [
          | inl new ↦ subst (λ (o : Option ServiceDef). under o (λ d. policy_suits d p) ≡ true) (sym new.0)
              (asked (is_among p.service names) (policy_suits def p) (all_holds (λ (q : Policy). not (is_among q.service names) || policy_suits def q) s.policies.items suits.policies p there) new.1)
          | inr same ↦ subst (λ (o : Option ServiceDef). under o (λ d. policy_suits d p) ≡ true) (sym same) parts.suits
        ];
        priority = parts.priority;
        subjects = parts.subjects;
        schedules = parts.schedules;
        zone = parts.zone;
      })

  row_on : (r : TagRow) → Contains s.tag_rows.items r → tag_row_valid s r ≡ true → tag_row_valid later r ≡ true
  row_on r there v =
      let parts = row_parts s r v in
      row_whole later r (record {
        service = parts.service;
        resources = elim (def_cases r.service) [
          | inl new ↦ subst (λ (o : Option ServiceDef). under o (λ d. tagged_fit d r.resources.items) ≡ true) (sym new.0)
              (asked (is_among r.service names) (tagged_fit def r.resources.items) (all_holds (λ (q : TagRow). not (is_among q.service names) || tagged_fit def q.resources.items) s.tag_rows.items suits.rows r there) new.1)
          | inr same ↦ subst (λ (o : Option ServiceDef). under o (λ d. tagged_fit d r.resources.items) ≡ true) (sym same) parts.resources
        ];
        tags = parts.tags;
      })

  -- the zones suit the new definition, for each of its services
  zones_for : (x : List ℕ) → is_among x names ≡ true → (all_maps_fit x def s.zones.items ≡ true) × (is_none (first_overlap x def s.zones.items) ≡ true)
  zones_for x is = and_parts (all_maps_fit x def s.zones.items) (is_none (first_overlap x def s.zones.items)) (all_holds (zones_suit def s.zones.items) names suits.zones x (among_holds x names is))

  zone_on : (z : ZoneRow) → Contains s.zones.items z → zone_valid s z ≡ true → zone_valid later z ≡ true
  zone_on z there v =
      let parts = zone_parts s z v in
      zone_whole later z (record {
        services = parts.services;
        tags = parts.tags;
        once = parts.once;
        levels = all_weaker (λ (e : ZoneService). under (def_of s e.service) (λ d. entry_levels_fit d e)) (λ (e : ZoneService). under (def_of later e.service) (λ d. entry_levels_fit d e)) z.services.items levels parts.levels;
        values = parts.values;
        subjects = parts.subjects;
      })
    where
      levels : (e : ZoneService) → Contains z.services.items e → under (def_of s e.service) (λ d. entry_levels_fit d e) ≡ true → under (def_of later e.service) (λ d. entry_levels_fit d e) ≡ true
      levels e e_there its = elim (def_cases e.service) [
        | inl new ↦
            let fit = all_holds (maps_fit e.service def) s.zones.items (zones_for e.service new.1).0 z there in
            let level = all_holds (λ (f : ZoneService). not (is_for e.service f) || entry_levels_fit def f) z.services.items (and_parts (zone_levels_fit e.service def z) (zone_values_fit e.service z) fit).0 e e_there in
            subst (λ (o : Option ServiceDef). under o (λ d. entry_levels_fit d e) ≡ true) (sym new.0) (asked (is_for e.service e) (entry_levels_fit def e) level (own_name e.service))
        | inr same ↦ subst (λ (o : Option ServiceDef). under o (λ d. entry_levels_fit d e) ≡ true) (sym same) its
      ]

  apart_on : are_apart later s.zones.items ≡ true
  unfolding are_apart are_apart_for
  apart_on = all_weaker (λ (r : ServiceRow). are_apart_for s s.zones.items r.name) (λ (r : ServiceRow). are_apart_for later s.zones.items r.name) s.services.items
      (λ r _ its. elim (def_cases r.name) [
        | inl new ↦ subst (λ (o : Option ServiceDef). under o (λ d. is_none (first_overlap r.name d s.zones.items)) ≡ true) (sym new.0) (zones_for r.name new.1).1
        | inr same ↦ subst (λ (o : Option ServiceDef). under o (λ d. is_none (first_overlap r.name d s.zones.items)) ≡ true) (sym same) its
      ]) valid.apart

  pub put_def_kept : IsValid later
  put_def_kept = record {
    definitions = all_put definition_valid (is_def def.name) def s.defs.items valid.definitions (definition_passes def rules.0);
    services = services_stay s valid.services (PutDef def) h;
    policies = all_weaker (policy_valid s) (policy_valid later) s.policies.items policy_on valid.policies;
    zones = all_weaker (zone_valid s) (zone_valid later) s.zones.items zone_on valid.zones;
    apart = apart_on;
    tag_rows = all_weaker (tag_row_valid s) (tag_row_valid later) s.tag_rows.items row_on valid.tag_rows;
    time_zones = valid.time_zones;
    roles = valid.roles;
    definition_names = distinct_put (λ (d : ServiceDef). d.name) (λ a b. bytes_eq b a) (λ a b. text_turn a b) (is_def def.name) def (λ y is. sym ((bytes_eq-Decides y.name def.name).0 is)) (λ y. refl) s.defs.items valid.definition_names;
    service_names = valid.service_names;
    zone_names = valid.zone_names;
    user_names = valid.user_names;
    policy_ids = valid.policy_ids;
    tag_row_ids = valid.tag_row_ids;
  }
