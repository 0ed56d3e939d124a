-- For proofs alone: services that are created, updated or deleted keep a state valid.
use Rattle.std.proofs.Common.{◌≡◌, ◌⊎◌, ◌&&◌, ◌||◌, ℕ, Bool, true, false, not, cond, is_none, map, Contains, List, [], ◌∷◌, ◌++◌, Option, Some, None, refl, ap, sym, ◌∙◌, subst, inl, inr}
use Rattle.std.specs.List.{filter, flat_map, list_any}
use Rattle.std.specs.Option.{option_and_then}
use Rattle.std.specs.Str.{bytes_eq}
use Rattle.std.proofs.lemmas.Bool.{and_from, and_parts, false≢true}
use Rattle.std.proofs.lemmas.List.Elements.{Contains-append_left, Contains-append_right}
use Rattle.std.proofs.lemmas.Option.{none-some}
use Rattle.std.proofs.lemmas.Slice.Eq.{bytes_eq-Decides}
use Rattle.rg_base.proofs.Lists.{Contains-cases, Contains-filter, Contains-filtered, Contains-first, Contains-later, Contains-none, all_from, all_holds, among_mapped, any_from, any_holds, find_contained}
use Rattle.rg_base.specs.Listed.{Listed, listed}
use Rattle.rg_base.specs.Texts.{all_distinct, is_among}
use Rattle.rg_policy.specs.declared.policy.Policy.{Policy}
use Rattle.rg_defs.specs.Rules.{tag_name}
use Rattle.rg_defs.specs.declared.service_def.ServiceDef.{ServiceDef}
use Rattle.rg_resmatch.specs.Rules.{tagged_fit}
use Rattle.rg_tags.specs.declared.row.TagRow.{TagRow}
use Rattle.rg_zone_rules.specs.Overlap.{first_overlap, maps_overlap, zones_overlap}
use Rattle.rg_zone_rules.specs.Rules.{entry_levels_fit, lists_service, policy_zone_fits}
use Rattle.rg_zone_rules.specs.Zones.{entry_maps, is_for, maps_for}
use Rattle.rg_zone_rules.specs.declared.row.ZoneRow.{ZoneRow}
use Rattle.rg_zone_rules.specs.declared.row.ZoneService.{ZoneService}
use Rattle.rg_cmd.specs.Lists.{put, without}
use Rattle.rg_cmd.specs.Lookups.{def_at, def_of, has_def, is_of, is_row_of, is_service, is_tag_service, service_at}
use Rattle.rg_cmd.specs.declared.ask.AdminCommand.TheVariants.{CreateService, DeleteService, UpdateService}
use Rattle.rg_cmd.specs.declared.rule.Rule.TheVariants.{C5}
use Rattle.rg_cmd.specs.declared.state.ServiceRow.{ServiceRow}
use Rattle.rg_cmd.specs.declared.state.State.{State}
use Rattle.rg_validate.specs.Definitions.{names_service, policy_suits, service_is_unused, under}
use Rattle.rg_validate.specs.Failing.{first_failing}
use Rattle.rg_validate.specs.Rules.{command_rules}
use Rattle.rg_validate.specs.Valid.{IsValid, policy_valid, tag_row_valid, zone_valid}
use Rattle.rg_validate.specs.Zones.{are_apart, are_apart_for, plain_services, tag_services}
use Rattle.rg_admin_laws.specs.Changes.{after_command}
use Rattle.rg_admin_laws.proofs.KeptRoles.{put_cases, put_there, text_turn}
use Rattle.rg_admin_laws.proofs.Lists.{all_snoc, all_weaker, case, distinct_filtered, distinct_put, distinct_snoc, find_append, find_put, find_some, find_without, none_passes, not_true, one_of_id, or_false, replaced, some_there}
use Rattle.rg_admin_laws.proofs.Moves.{other_name, own_name}
use Rattle.rg_admin_laws.proofs.Orderly.{IsUpdate, ServicesValid, def_there, is_update, new_is_new, services_stay, updated_def, updated_found}
use Rattle.rg_admin_laws.proofs.Parts.{ZoneParts, policy_parts, policy_whole, row_parts, row_whole, under_some, zone_parts, zone_whole}
use Rattle.rg_admin_laws.proofs.Passing.{passed_at}

-- the two states say the same of this name
pub record Agrees (s later : State) (x : List ℕ) : Type 0 where
  pub def : def_of later x ≡ def_of s x
  pub tag : is_tag_service later x ≡ is_tag_service s x
  pub plain : is_among x (plain_services s) ≡ true → is_among x (plain_services later) ≡ true
  pub tags : is_among x (tag_services s) ≡ true → is_among x (tag_services later) ≡ true

-- the zones' services and tag services agree
pub record ZoneAgrees (s later : State) (z : ZoneRow) : Type 0 where
  pub services : (e : ZoneService) → Contains z.services.items e → Agrees s later e.service
  pub tags : (t : List ℕ) → Contains z.tag_services.items t → Agrees s later t

module _ (s : State) (services : Listed ServiceRow) where
  abbrev later : State
  later = record s { services = services }

  policy_on : (p : Policy) → Agrees s later p.service → policy_valid s p ≡ true → policy_valid later p ≡ true
  policy_on p agrees v =
      let parts = policy_parts s p v in
      policy_whole later p (record {
        suits = subst (λ (o : Option ServiceDef). under o (λ d. policy_suits d p) ≡ true) (sym agrees.def) parts.suits;
        priority = parts.priority;
        subjects = parts.subjects;
        schedules = parts.schedules;
        zone = subst (λ b. policy_zone_fits b p.service s.zones.items p ≡ true) (sym agrees.tag) parts.zone;
      })

  row_on : (r : TagRow) → Agrees s later r.service → tag_row_valid s r ≡ true → tag_row_valid later r ≡ true
  row_on r agrees v =
      let parts = row_parts s r v in
      row_whole later r (record {
        service = ap not agrees.tag ∙ parts.service;
        resources = subst (λ (o : Option ServiceDef). under o (λ d. tagged_fit d r.resources.items) ≡ true) (sym agrees.def) parts.resources;
        tags = parts.tags;
      })

  zone_on : (z : ZoneRow) → ZoneAgrees s later z → zone_valid s z ≡ true → zone_valid later z ≡ true
  zone_on z agrees v =
      let parts = zone_parts s z v in
      zone_whole later z (record {
        services = all_weaker (λ (e : ZoneService). is_among e.service (plain_services s)) (λ (e : ZoneService). is_among e.service (plain_services later)) z.services.items (λ e there is. (agrees.services e there).plain is) parts.services;
        tags = all_weaker (λ name. is_among name (tag_services s)) (λ name. is_among name (tag_services later)) z.tag_services.items (λ t there is. (agrees.tags t there).tags is) parts.tags;
        once = parts.once;
        levels = all_weaker (λ (e : ZoneService). under (def_of s e.service) (λ d. entry_levels_fit d e)) (λ (e : ZoneService). under (def_of later e.service) (λ d. entry_levels_fit d e)) z.services.items
            (λ e there is. subst (λ (o : Option ServiceDef). under o (λ d. entry_levels_fit d e) ≡ true) (sym (agrees.services e there).def) is) parts.levels;
        values = parts.values;
        subjects = parts.subjects;
      })

  pub valid_on : IsValid s → ServicesValid later → all_distinct (λ (a b : ServiceRow). bytes_eq b.name a.name) services.items ≡ true → are_apart later s.zones.items ≡ true
      → ((p : Policy) → Contains s.policies.items p → Agrees s later p.service) → ((r : TagRow) → Contains s.tag_rows.items r → Agrees s later r.service)
      → ((z : ZoneRow) → Contains s.zones.items z → ZoneAgrees s later z) → IsValid later
  valid_on valid rows names apart policies tag_rows zones = record {
    definitions = valid.definitions;
    services = rows;
    policies = all_weaker (policy_valid s) (policy_valid later) s.policies.items (λ p there v. policy_on p (policies p there) v) valid.policies;
    zones = all_weaker (zone_valid s) (zone_valid later) s.zones.items (λ z there v. zone_on z (zones z there) v) valid.zones;
    apart = apart;
    tag_rows = all_weaker (tag_row_valid s) (tag_row_valid later) s.tag_rows.items (λ r there v. row_on r (tag_rows r there) v) valid.tag_rows;
    time_zones = valid.time_zones;
    roles = valid.roles;
    definition_names = valid.definition_names;
    service_names = names;
    zone_names = valid.zone_names;
    user_names = valid.user_names;
    policy_ids = valid.policy_ids;
    tag_row_ids = valid.tag_row_ids;
  }

-- ---- names that are there

under_there : (s : State) (x : List ℕ) (t : ServiceDef → Bool) → under (def_of s x) t ≡ true → list_any (is_service x) s.services.items ≡ true
under_there s x t h = go (service_at s x) refl (under_some (def_of s x) t h)
  where
    go : (o : Option ServiceRow) → service_at s x ≡ o → (d : ServiceDef) × (def_of s x ≡ Some d) → list_any (is_service x) s.services.items ≡ true
    go None none d = absurd (none-some d.0 (sym (ap (option_and_then (λ (row : ServiceRow). def_at s row.def)) none) ∙ d.1))
    go (Some row) found d = some_there (is_service x) s.services.items row found

-- a name of services that pass is one of all
listed_there : (s : State) (x : List ℕ) (t : ServiceRow → Bool) → is_among x (map (λ (row : ServiceRow). row.name) (filter t s.services.items)) ≡ true → list_any (is_service x) s.services.items ≡ true
listed_there s x t h =
    let r = any_holds (λ (row : ServiceRow). bytes_eq row.name x) (filter t s.services.items) (sym (among_mapped (λ (row : ServiceRow). row.name) x (filter t s.services.items)) ∙ h) in
    any_from (is_service x) s.services.items r.0 (Contains-filtered t s.services.items r.0 r.1).0 r.2

-- a name stays among those that pass where its rows do
among_on : (t : ServiceRow → Bool) (xs ys : List ServiceRow) (x : List ℕ) → ((row : ServiceRow) → Contains xs row → bytes_eq row.name x ≡ true → t row ≡ true → (q : ServiceRow) × Contains ys q × (bytes_eq q.name x ≡ true) × (t q ≡ true))
    → is_among x (map (λ (row : ServiceRow). row.name) (filter t xs)) ≡ true → is_among x (map (λ (row : ServiceRow). row.name) (filter t ys)) ≡ true
among_on t xs ys x on h =
    let named = λ (row : ServiceRow). bytes_eq row.name x in
    let r = any_holds named (filter t xs) (sym (among_mapped (λ (row : ServiceRow). row.name) x (filter t xs)) ∙ h) in
    let f = Contains-filtered t xs r.0 r.1 in
    let q = on r.0 f.0 r.2 f.1 in
    among_mapped (λ (row : ServiceRow). row.name) x (filter t ys) ∙ any_from named (filter t ys) q.0 (Contains-filter t ys q.0 q.1 q.3) q.2

-- every name that a valid state names is there
module _ (s : State) (valid : IsValid s) where
  policy_there : (p : Policy) → Contains s.policies.items p → list_any (is_service p.service) s.services.items ≡ true
  policy_there p there = under_there s p.service (λ d. policy_suits d p) (policy_parts s p (all_holds (policy_valid s) s.policies.items valid.policies p there)).suits

  row_there : (r : TagRow) → Contains s.tag_rows.items r → list_any (is_service r.service) s.services.items ≡ true
  row_there r there = under_there s r.service (λ d. tagged_fit d r.resources.items) (row_parts s r (all_holds (tag_row_valid s) s.tag_rows.items valid.tag_rows r there)).resources

  abbrev parts_of : (z : ZoneRow) → Contains s.zones.items z → ZoneParts s z
  parts_of z there = zone_parts s z (all_holds (zone_valid s) s.zones.items valid.zones z there)

  zone_there : (z : ZoneRow) → Contains s.zones.items z → (e : ZoneService) → Contains z.services.items e → list_any (is_service e.service) s.services.items ≡ true
  zone_there z there e e_there = listed_there s e.service (λ (row : ServiceRow). not (bytes_eq row.def tag_name)) (all_holds (λ (x : ZoneService). is_among x.service (plain_services s)) z.services.items (parts_of z there).services e e_there)

  tag_there : (z : ZoneRow) → Contains s.zones.items z → (t : List ℕ) → Contains z.tag_services.items t → list_any (is_service t) s.services.items ≡ true
  tag_there z there t t_there = listed_there s t (λ (row : ServiceRow). bytes_eq row.def tag_name) (all_holds (λ name. is_among name (tag_services s)) z.tag_services.items (parts_of z there).tags t t_there)

-- ---- createService

created_agrees : (s : State) (row : ServiceRow) (x : List ℕ) → list_any (is_service x) s.services.items ≡ true → Agrees s (after_command s (CreateService row)) x
created_agrees s row x there =
    let q = find_some (is_service x) s.services.items there in
    let same = find_append (is_service x) s.services.items (row ∷ []) q.0 q.1 ∙ sym q.1 in
    let on = λ (t : ServiceRow → Bool). among_on t s.services.items (s.services.items ++ row ∷ []) x (λ r r_there named its. (r, Contains-append_left s.services.items (row ∷ []) r r_there, named, its)) in record {
      def = ap (option_and_then (λ (r : ServiceRow). def_at s r.def)) same;
      tag = ap (has_def tag_name) same;
      plain = on (λ (r : ServiceRow). not (bytes_eq r.def tag_name));
      tags = on (λ (r : ServiceRow). bytes_eq r.def tag_name);
    }

-- zones that don't list the service are apart for it
no_maps : (service : List ℕ) (entries : List ZoneService) → ((e : ZoneService) → Contains entries e → is_for service e ≡ false) → flat_map (entry_maps service) entries ≡ []
no_maps service [] other = refl
no_maps service (e ∷ entries) other =
    ap (λ b. cond b e.resources.items [] ++ flat_map (entry_maps service) entries) (other e (Contains-first e entries)) ∙ no_maps service entries (λ f there. other f (Contains-later e entries f there))

never_same : {X : Type 0} (same : X → X → Bool) (xs : List X) → ((x : X) → Contains xs x → (y : X) → same x y ≡ false) → all_distinct same xs ≡ true
never_same same [] other = refl
never_same same (x ∷ xs) other =
    and_from (not (list_any (same x) xs)) (all_distinct same xs) (ap not (none xs)) (never_same same xs (λ y there. other y (Contains-later x xs y there)))
  where
    none : (ys : List _) → list_any (same x) ys ≡ false
    none [] = refl
    none (y ∷ ys) = ap (λ b. b || list_any (same x) ys) (other x (Contains-first x xs) y) ∙ none ys

module _ (by_pairs : (service : List ℕ) (def : ServiceDef) (zones : List ZoneRow) → is_none (first_overlap service def zones) ≡ all_distinct (zones_overlap service def) zones) where
  unlisted_apart : (s : State) → IsValid s → (service : List ℕ) (def : ServiceDef) → list_any (is_service service) s.services.items ≡ false → is_none (first_overlap service def s.zones.items) ≡ true
  unlisted_apart s valid service def new = by_pairs service def s.zones.items ∙ never_same (zones_overlap service def) s.zones.items (λ a there b.
      ap (λ ms. list_any (λ m. list_any (maps_overlap def m) (maps_for service b)) ms) (no_maps service a.services.items (λ e e_there.
      case (λ t. bytes_eq e.service service ≡ t → t ≡ false) (bytes_eq e.service service)
      (λ _ is. absurd (false≢true (sym new ∙ subst (λ n. list_any (is_service n) s.services.items ≡ true) ((bytes_eq-Decides e.service service).0 is) (zone_there s valid a there e e_there)))) (λ _ _. refl) refl)))

  pub create_service_kept : (s : State) (row : ServiceRow) → IsValid s → first_failing (command_rules s (CreateService row)) ≡ None → IsValid (after_command s (CreateService row))
  unfolding are_apart are_apart_for
  create_service_kept s row valid h =
      let later = after_command s (CreateService row) in
      let new = new_is_new s row h in
      let rows = services_stay s valid.services (CreateService row) h in
      let there : list_any (is_service row.name) (s.services.items ++ row ∷ []) ≡ true = any_from (is_service row.name) (s.services.items ++ row ∷ []) row (Contains-append_right s.services.items (row ∷ []) row (Contains-first row [])) (own_name row.name) in
      let def = def_there later rows row.name there in
      valid_on s (listed (s.services.items ++ row ∷ [])) valid rows
      (distinct_snoc (λ (a b : ServiceRow). bytes_eq b.name a.name) (λ a b. text_turn a.name b.name) s.services.items row valid.service_names new)
      (all_snoc (λ (r : ServiceRow). are_apart_for later s.zones.items r.name) s.services.items row
      (all_weaker (λ (r : ServiceRow). are_apart_for s s.zones.items r.name) (λ (r : ServiceRow). are_apart_for later s.zones.items r.name) s.services.items
      (λ r r_there its. subst (λ (o : Option ServiceDef). under o (λ d. is_none (first_overlap r.name d s.zones.items)) ≡ true)
      (sym (created_agrees s row r.name (any_from (is_service r.name) s.services.items r r_there (own_name r.name))).def) its) valid.apart)
      (subst (λ (o : Option ServiceDef). under o (λ d. is_none (first_overlap row.name d s.zones.items)) ≡ true) (sym def.1) (unlisted_apart s valid row.name def.0 new)))
      (λ p p_there. created_agrees s row p.service (policy_there s valid p p_there))
      (λ r r_there. created_agrees s row r.service (row_there s valid r r_there))
      (λ z z_there. record {
        services = λ e e_there. created_agrees s row e.service (zone_there s valid z z_there e e_there);
        tags = λ t t_there. created_agrees s row t (tag_there s valid z z_there t t_there);
      })

-- ---- updateService

-- what isn't replaced stays
put_others : {X : Type 0} (same : X → Bool) (x : X) (xs : List X) (y : X) → Contains xs y → same y ≡ false → Contains (put same x xs) y
put_others {X = X} same x xs y there other = case (λ b. Contains (cond b (replaced same x xs) (xs ++ x ∷ [])) y) (list_any same xs) (λ _. in_replaced xs there) (λ _. Contains-append_left xs (x ∷ []) y there)
  where
    in_replaced : (ys : List X) → Contains ys y → Contains (replaced same x ys) y
    in_replaced [] h = absurd (Contains-none y h)
    in_replaced (z ∷ ys) h = elim (Contains-cases z ys y h) [
      | inl here ↦ subst (λ (w : X). Contains (w ∷ replaced same x ys) y) (sym (ap (λ b. cond b x z) (ap same here ∙ other) ∙ here)) (Contains-first y (replaced same x ys))
      | inr later ↦ Contains-later (cond (same z) x z) (replaced same x ys) y (in_replaced ys later)
    ]

module _ (s : State) (row : ServiceRow) (valid : IsValid s) (h : first_failing (command_rules s (UpdateService row)) ≡ None) where
  abbrev updated : State
  updated = after_command s (UpdateService row)

  abbrev update : IsUpdate s row
  update = is_update s row h

  -- the row that was replaced is the old one
  old_row : (r : ServiceRow) → Contains s.services.items r → is_service row.name r ≡ true → r ≡ update.old
  old_row r there is = one_of_id (λ (a b : ServiceRow). bytes_eq b.name a.name) (is_service row.name)
      (λ a b x y. (bytes_eq-Decides b.name a.name).1 ((bytes_eq-Decides b.name row.name).0 y ∙ sym ((bytes_eq-Decides a.name row.name).0 x))) s.services.items valid.service_names update.old r update.found there is

  updated_on : (f : List ℕ → Bool) (x : List ℕ) → is_among x (map (λ (r : ServiceRow). r.name) (filter (λ (r : ServiceRow). f r.def) s.services.items)) ≡ true
      → is_among x (map (λ (r : ServiceRow). r.name) (filter (λ (r : ServiceRow). f r.def) (put (is_service row.name) row s.services.items))) ≡ true
  updated_on f x = among_on (λ (r : ServiceRow). f r.def) s.services.items (put (is_service row.name) row s.services.items) x (λ r there named its.
      case (λ b. is_service row.name r ≡ b → (q : ServiceRow) × Contains (put (is_service row.name) row s.services.items) q × (bytes_eq q.name x ≡ true) × (f q.def ≡ true)) (is_service row.name r)
      (λ _ is. (
        row,
        put_there (is_service row.name) row s.services.items,
        ap (λ n. bytes_eq n x) (sym ((bytes_eq-Decides r.name row.name).0 is)) ∙ named,
        ap f (sym (ap (λ (q : ServiceRow). q.def) (old_row r there is) ∙ update.same_def)) ∙ its,
      ))
      (λ _ other. (r, put_others (is_service row.name) row s.services.items r there other, named, its)) refl)

  updated_agrees : (x : List ℕ) → Agrees s updated x
  updated_agrees x = record {
    def = same_def x;
    tag = updated_def s row update tag_name x;
    plain = updated_on (λ n. not (bytes_eq n tag_name)) x;
    tags = updated_on (λ n. bytes_eq n tag_name) x;
  }
    where
      same_def : (x : List ℕ) → def_of updated x ≡ def_of s x
      same_def x = case (λ b. bytes_eq row.name x ≡ b → def_of updated x ≡ def_of s x) (bytes_eq row.name x)
          (λ _ is. subst (λ n. def_of updated n ≡ def_of s n) ((bytes_eq-Decides row.name x).0 is)
          (ap (option_and_then (λ (r : ServiceRow). def_at s r.def)) (updated_found s row update) ∙ ap (def_at s) (sym update.same_def) ∙ sym (ap (option_and_then (λ (r : ServiceRow). def_at s r.def)) update.found)))
          (λ _ other. ap (option_and_then (λ (r : ServiceRow). def_at s r.def)) (find_put (is_service x) (is_service row.name) (λ y is. ap (λ n. bytes_eq n x) ((bytes_eq-Decides y.name row.name).0 is) ∙ other) row other s.services.items))
          refl

  pub update_service_kept : IsValid updated
  unfolding are_apart are_apart_for
  update_service_kept =
      valid_on s (listed (put (is_service row.name) row s.services.items)) valid (services_stay s valid.services (UpdateService row) h)
      (distinct_put (λ (r : ServiceRow). r.name) (λ a b. bytes_eq b a) (λ a b. text_turn a b) (is_service row.name) row (λ y is. sym ((bytes_eq-Decides y.name row.name).0 is)) (λ y. refl) s.services.items valid.service_names)
      (all_from (λ (r : ServiceRow). are_apart_for updated s.zones.items r.name) (put (is_service row.name) row s.services.items) (λ r there.
      subst (λ (o : Option ServiceDef). under o (λ d. is_none (first_overlap r.name d s.zones.items)) ≡ true) (sym (updated_agrees r.name).def) (apart_of r (put_cases (is_service row.name) row s.services.items r there))))
      (λ p there. updated_agrees p.service) (λ r there. updated_agrees r.service)
      (λ z there. record { services = λ e e_there. updated_agrees e.service; tags = λ t t_there. updated_agrees t })
    where
      apart_of : (r : ServiceRow) → (r ≡ row) ⊎ Contains s.services.items r → are_apart_for s s.zones.items r.name ≡ true
      apart_of r (inl new) =
          let old = find_contained (is_service row.name) s.services.items update.old update.found in
          subst (λ n. are_apart_for s s.zones.items n ≡ true) ((bytes_eq-Decides update.old.name row.name).0 old.1 ∙ ap (λ (q : ServiceRow). q.name) (sym new))
          (all_holds (λ (q : ServiceRow). are_apart_for s s.zones.items q.name) s.services.items valid.apart update.old old.0)
      apart_of r (inr there) = all_holds (λ (q : ServiceRow). are_apart_for s s.zones.items q.name) s.services.items valid.apart r there

-- ---- deleteService

module _ (s : State) (name : List ℕ) (valid : IsValid s) (h : first_failing (command_rules s (DeleteService name)) ≡ None) where
  abbrev deleted : State
  deleted = after_command s (DeleteService name)

  deleted_agrees : (x : List ℕ) → bytes_eq x name ≡ false → Agrees s deleted x
  deleted_agrees x other =
      let same = find_without (is_service x) (is_service name) (λ y is. other_name name x y.name other is) s.services.items in
      let on = λ (t : ServiceRow → Bool). among_on t s.services.items (without (is_service name) s.services.items) x (λ r there named its.
      (r, Contains-filter (λ y. not (is_service name y)) s.services.items r there (ap not (ap (λ n. bytes_eq n name) ((bytes_eq-Decides r.name x).0 named) ∙ other)), named, its)) in record {
        def = ap (option_and_then (λ (r : ServiceRow). def_at s r.def)) same;
        tag = ap (has_def tag_name) same;
        plain = on (λ (r : ServiceRow). not (bytes_eq r.def tag_name));
        tags = on (λ (r : ServiceRow). bytes_eq r.def tag_name);
      }

  record Unused : Type 0 where
    pub policies : list_any (is_of name) s.policies.items ≡ false
    pub rows : list_any (is_row_of name) s.tag_rows.items ≡ false
    pub zones : list_any (names_service name) s.zones.items ≡ false

  unused : Unused
  unused =
      let last = not (list_any (λ (r : ServiceRow). bytes_eq r.tag_service name) s.services.items) in
      let a = and_parts (not (bytes_eq s.plugin name)) (not (list_any (is_of name) s.policies.items) && (not (list_any (is_row_of name) s.tag_rows.items) && (not (list_any (names_service name) s.zones.items) && last)))
      (passed_at (command_rules s (DeleteService name)) h 1 (C5, service_is_unused s name) refl) in
      let b = and_parts (not (list_any (is_of name) s.policies.items)) (not (list_any (is_row_of name) s.tag_rows.items) && (not (list_any (names_service name) s.zones.items) && last)) a.1 in
      let c = and_parts (not (list_any (is_row_of name) s.tag_rows.items)) (not (list_any (names_service name) s.zones.items) && last) b.1 in
      let d = and_parts (not (list_any (names_service name) s.zones.items)) last c.1 in
      record { policies = not_true (list_any (is_of name) s.policies.items) b.0; rows = not_true (list_any (is_row_of name) s.tag_rows.items) c.0; zones = not_true (list_any (names_service name) s.zones.items) d.0 }

  zone_other : (z : ZoneRow) → Contains s.zones.items z → (lists_service false name z ≡ false) × (lists_service true name z ≡ false)
  zone_other z there = or_false (lists_service false name z) (lists_service true name z) (none_passes (names_service name) s.zones.items unused.zones z there)

  pub delete_service_kept : IsValid deleted
  unfolding are_apart are_apart_for
  delete_service_kept =
      valid_on s (listed (without (is_service name) s.services.items)) valid (services_stay s valid.services (DeleteService name) h)
      (distinct_filtered (λ (a b : ServiceRow). bytes_eq b.name a.name) (λ r. not (is_service name r)) s.services.items valid.service_names)
      (all_from (λ (r : ServiceRow). are_apart_for deleted s.zones.items r.name) (without (is_service name) s.services.items) (λ r there.
      let f = Contains-filtered (λ y. not (is_service name y)) s.services.items r there in
      subst (λ (o : Option ServiceDef). under o (λ d. is_none (first_overlap r.name d s.zones.items)) ≡ true) (sym (deleted_agrees r.name (not_true (is_service name r) f.1)).def)
      (all_holds (λ (q : ServiceRow). are_apart_for s s.zones.items q.name) s.services.items valid.apart r f.0)))
      (λ p there. deleted_agrees p.service (none_passes (is_of name) s.policies.items unused.policies p there))
      (λ r there. deleted_agrees r.service (none_passes (is_row_of name) s.tag_rows.items unused.rows r there))
      (λ z there. record {
        services = λ e e_there. deleted_agrees e.service (none_passes (is_for name) z.services.items (zone_other z there).0 e e_there);
        tags = λ t t_there. deleted_agrees t (none_passes (λ x. bytes_eq x name) z.tag_services.items (zone_other z there).1 t t_there);
      })
