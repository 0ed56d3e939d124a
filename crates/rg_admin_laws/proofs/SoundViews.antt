-- For proofs alone: every view of a valid state is sound where its versions are low enough.
use Rattle.std.proofs.Common.{arith, ◌≡◌, ◌≤◌, ◌^◌, ◌&&◌, ◌||◌, ℕ, pos, int_lt, Bool, true, false, not, cond, is_none, leb, Contains, List, [], ◌∷◌, ◌++◌, Option, Some, None, refl, ap, sym, ◌∙◌, subst}
use Rattle.std.specs.Option.{option_and_then, option_map}
use Rattle.std.specs.List.{filter, find, list_all, list_any}
use Rattle.std.specs.Ordering.{int_eq}
use Rattle.std.specs.Str.{bytes_eq}
use Rattle.std.proofs.lemmas.Bool.{and_from, and_parts, false≢true, le-leb}
use Rattle.std.proofs.lemmas.Cmp.{int_eq_equiv}
use Rattle.std.proofs.lemmas.List.Folds.{list_all-append}
use Rattle.std.proofs.lemmas.Option.{none-some}
use Rattle.std.proofs.lemmas.Slice.Eq.{bytes_eq-Decides}
use Rattle.rg_base.proofs.Lists.{Contains-filtered, all_distinct-map, all_holds, among_mapped, any_from, any_holds, find_contained}
use Rattle.rg_base.specs.Texts.{all_distinct, is_among, is_empty}
use Rattle.rg_policy.specs.declared.policy.Policy.{Policy}
use Rattle.rg_cond.specs.PolicyRules.{conditions_compile, schedules_read}
use Rattle.rg_cond.specs.Zones.{bad_rule}
use Rattle.rg_defs.specs.Rules.{def_fault, tag_name}
use Rattle.rg_defs.specs.declared.service_def.ServiceDef.{ServiceDef}
use Rattle.rg_items.specs.PolicyRules.{entries_fit, lists_fit, outcomes_fit, priority_fits, subjects_fit, type_fits}
use Rattle.rg_evalr.specs.Compiling.{policy_fault, policy_rules}
use Rattle.rg_evalr.specs.Frames.{def_of as def_in}
use Rattle.rg_evalr.specs.declared.frame.Frame.{Frame}
use Rattle.rg_evalr.specs.declared.frame.Side.{Side}
use Rattle.rg_evalr.specs.declared.frame.Side.TheVariants.{Resource, Tag}
use Rattle.rg_roles.specs.Faults.{fault_of}
use Rattle.rg_roles.specs.Members.{names_of}
use Rattle.rg_tags.specs.Rules.{tags_fit}
use Rattle.rg_tags.specs.declared.row.TagRow.{TagRow}
use Rattle.rg_resmatch.specs.Rules.{policy_levels_fit, policy_values_fit, tagged_fit}
use Rattle.rg_zone_rules.specs.Overlap.{first_overlap}
use Rattle.rg_zone_rules.specs.Rules.{entry_levels_fit, entry_values_fit, is_zone_of, listing_fits, maps_fit, policy_zone_fits, same_name, service_names, subjects_exist, tag_policy_zone_fits, times_listed, times_tagged, zone_levels_fit, zone_values_fit}
use Rattle.rg_zone_rules.specs.Zones.{is_for}
use Rattle.rg_zone_rules.specs.declared.row.ZoneRow.{ZoneRow}
use Rattle.rg_zone_rules.specs.declared.row.ZoneService.{ZoneService}
use Rattle.rg_facts.specs.Candidates.{frame_of}
use Rattle.rg_facts.specs.Sound.{defs_sound, ids_sound, is_no_policy, is_tag_def, passes, policies_sound, roles_sound, row_sound, same_id, sound, tag_def_sound, tag_policies_pass, tag_rows_sound, versions_fit, zone_names_sound, zones_sound}
use Rattle.rg_facts.specs.declared.facts.Facts.{Facts}
use Rattle.rg_cmd.specs.Lookups.{def_at, def_of, has_def, is_def, is_of, is_of_tag, is_row_of, is_service, is_tag_service, service_at, tag_service_of}
use Rattle.rg_cmd.specs.declared.changes.Log.{Log}
use Rattle.rg_cmd.specs.declared.state.ServiceRow.{ServiceRow}
use Rattle.rg_cmd.specs.declared.state.State.{State}
use Rattle.rg_validate.specs.Definitions.{policy_suits, under}
use Rattle.rg_validate.specs.Valid.{IsValid, definition_valid, is_given, policy_valid, tag_row_valid, zone_valid}
use Rattle.rg_validate.specs.Zones.{are_apart, are_apart_for, plain_services, tag_services}
use Rattle.rg_admin_laws.specs.Logs.{Administration, log_at}
use Rattle.rg_admin_laws.specs.Views.{facts_of, view}
use Rattle.rg_admin_laws.proofs.Downloading.{viewed}
use Rattle.rg_admin_laws.proofs.Lists.{all_weaker, at_most_one, case, distinct_filtered, distinct_parts, filter_all, find_some, none_left, not_true, one_of_id}
use Rattle.rg_admin_laws.proofs.Orderly.{has_row}
use Rattle.rg_admin_laws.proofs.Parts.{ZoneParts, policy_parts, row_parts, zone_parts}
use Rattle.rg_admin_laws.proofs.Tidy.{not_itself, tag_facts, with_tag}

-- ---- policies

none_fails : (rules : List (ℕ × Bool)) → list_all (λ (r : ℕ × Bool). r.1) rules ≡ true → find (λ (r : ℕ × Bool). not r.1) rules ≡ None
none_fails [] h = refl
none_fails (r ∷ rules) h =
    let both = and_parts r.1 (list_all (λ (q : ℕ × Bool). q.1) rules) h in
    ap (λ b. cond (not b) (Some r) (find (λ (q : ℕ × Bool). not q.1) rules)) both.0 ∙ none_fails rules both.1

-- a policy that suits the definition of its side, and whose priority and schedules are right, passes
suiting_passes : (frame : Frame) (side : Side) (p : Policy) → policy_suits (def_in frame side) p ≡ true → priority_fits p ≡ true → schedules_read frame.time_zones p ≡ true → passes frame side p ≡ true
unfolding policy_fault
suiting_passes frame side p suits priority schedules =
    let def = def_in frame side in
    let six = conditions_compile def p && outcomes_fit def p in
    let five = entries_fit def p && six in
    let four = lists_fit p && five in
    let three = policy_values_fit def p && four in
    let two = policy_levels_fit def p && three in
    let a = and_parts (type_fits def p) two suits in
    let b = and_parts (policy_levels_fit def p) three a.1 in
    let c = and_parts (policy_values_fit def p) four b.1 in
    let d = and_parts (lists_fit p) five c.1 in
    let e = and_parts (entries_fit def p) six d.1 in
    let f = and_parts (conditions_compile def p) (outcomes_fit def p) e.1 in
    ap (λ o. is_none (option_map (λ (r : ℕ × Bool). r.0) o)) (none_fails (policy_rules frame side p)
    (and_from (type_fits def p) _ a.0 (and_from (priority_fits p) _ priority (and_from (policy_levels_fit def p) _ b.0 (and_from (policy_values_fit def p) _ c.0
    (and_from (lists_fit p) _ d.0 (and_from (entries_fit def p) _ e.0 (and_from (conditions_compile def p) _ f.0 (and_from (outcomes_fit def p) _ f.1 (and_from (schedules_read frame.time_zones p) true schedules refl))))))))))

-- ---- services

-- a service with a definition: its row, and the definition of that name
pub record Defined (s : State) (service : List ℕ) (d : ServiceDef) : Type 0 where
  pub row : ServiceRow
  pub found : service_at s service ≡ Some row
  pub is : def_at s row.def ≡ Some d

pub defined : (s : State) (service : List ℕ) (d : ServiceDef) → def_of s service ≡ Some d → Defined s service d
defined s service d is = go (service_at s service) refl is
  where
    go : (o : Option ServiceRow) → service_at s service ≡ o → option_and_then (λ (row : ServiceRow). def_at s row.def) o ≡ Some d → Defined s service d
    go None found h = absurd (none-some d h)
    go (Some row) found h = record { row = row; found = found; is = h }

-- the definition is the tag definition where the service is a tag service
pub tag_test : (s : State) (service : List ℕ) (d : ServiceDef) → def_of s service ≡ Some d → is_tag_def d ≡ is_tag_service s service
tag_test s service d is =
    let h = defined s service d is in
    ap (λ n. bytes_eq n tag_name) ((bytes_eq-Decides d.name h.row.def).0 (find_contained (is_def h.row.def) s.defs.items d h.is).1) ∙ sym (ap (has_def tag_name) h.found)

same_texts : (t a b : List ℕ) → bytes_eq a t ≡ true → bytes_eq b t ≡ true → bytes_eq b a ≡ true
same_texts t a b x y = (bytes_eq-Decides b a).1 ((bytes_eq-Decides b t).0 y ∙ sym ((bytes_eq-Decides a t).0 x))

abbrev same_service : ServiceRow → ServiceRow → Bool
same_service a b = bytes_eq b.name a.name

-- among services of distinct names one of this name is that which is found
only_row : (s : State) → IsValid s → (service : List ℕ) (row other : ServiceRow) → service_at s service ≡ Some row → Contains s.services.items other → bytes_eq other.name service ≡ true → other ≡ row
only_row s valid service row other found there is =
    one_of_id same_service (is_service service) (λ a b x y. same_texts service a.name b.name x y) s.services.items valid.service_names row other found there is

-- what is listed as a service is no tag service, and what is listed as a tag service is one
listed_plain : (s : State) → IsValid s → (service : List ℕ) → is_among service (plain_services s) ≡ true → is_tag_service s service ≡ false
listed_plain s valid service h = case (λ b. is_tag_service s service ≡ b → b ≡ false) (is_tag_service s service)
    (λ _ is.
    let rows = filter (λ (row : ServiceRow). not (bytes_eq row.def tag_name)) s.services.items in
    let r = any_holds (λ (row : ServiceRow). bytes_eq row.name service) rows (sym (among_mapped (λ (row : ServiceRow). row.name) service rows) ∙ h) in
    let f = Contains-filtered (λ (row : ServiceRow). not (bytes_eq row.def tag_name)) s.services.items r.0 r.1 in
    let q = has_row (service_at s service) tag_name is in
    let same = only_row s valid service q.0 r.0 q.1 f.0 r.2 in
    absurd (false≢true (sym (not_true (bytes_eq r.0.def tag_name) f.1) ∙ ap (λ (row : ServiceRow). bytes_eq row.def tag_name) same ∙ sym (ap (has_def tag_name) q.1) ∙ is)))
    (λ _ _. refl) refl

listed_tag : (s : State) → IsValid s → (service : List ℕ) → is_among service (tag_services s) ≡ true → is_tag_service s service ≡ true
listed_tag s valid service h =
    let rows = filter (λ (row : ServiceRow). bytes_eq row.def tag_name) s.services.items in
    let r = any_holds (λ (row : ServiceRow). bytes_eq row.name service) rows (sym (among_mapped (λ (row : ServiceRow). row.name) service rows) ∙ h) in
    let f = Contains-filtered (λ (row : ServiceRow). bytes_eq row.def tag_name) s.services.items r.0 r.1 in
    let q = find_some (is_service service) s.services.items (any_from (is_service service) s.services.items r.0 f.0 r.2) in
    let same = only_row s valid service q.0 r.0 q.1 f.0 r.2 in
    ap (has_def tag_name) q.1 ∙ ap (λ (row : ServiceRow). bytes_eq row.def tag_name) (sym same) ∙ f.1

-- ---- the parts of soundness

module _ (s : State) (valid : IsValid s) (given : list_all (is_given s) s.policies.items ≡ true) (service : List ℕ) (l : Log) (row : ServiceRow) (def : ServiceDef) (row_is : service_at s service ≡ Some row) (def_is : def_of s service ≡ Some def) where
  abbrev facts : Facts
  facts = facts_of service s l row def

  lawful : (name : List ℕ) (d : ServiceDef) → def_of s name ≡ Some d → is_none (def_fault d) ≡ true
  lawful name d is = let h = defined s name d is in all_holds definition_valid s.defs.items valid.definitions d (find_contained (is_def h.row.def) s.defs.items d h.is).0

  tag_lawful : (o : Option (List ℕ)) → tag_service_of s service ≡ o → tag_def_sound (option_and_then (def_of s) o) ≡ true
  tag_lawful None is = refl
  tag_lawful (Some t) is = go (def_of s t) refl
    where
      go : (o : Option ServiceDef) → def_of s t ≡ o → tag_def_sound o ≡ true
      go None h = refl
      go (Some d) h =
          let w = with_tag s service t is in
          and_from (is_none (def_fault d)) (is_tag_def d) (lawful t d h) (tag_test s t d h ∙ (tag_facts s valid.services service t w.row w.found w.tag).is_tag)

  defs_are : defs_sound facts ≡ true
  unfolding defs_sound
  defs_are = and_from (is_none (def_fault def)) (tag_def_sound (option_and_then (def_of s) (tag_service_of s service))) (lawful service def def_is) (tag_lawful (tag_service_of s service) refl)

  -- a policy of a service suits the service's definition
  suits_under : (name : List ℕ) (o : Option ServiceDef) → def_of s name ≡ o → (p : Policy) → bytes_eq p.service name ≡ true → policy_valid s p ≡ true → under o (λ d. policy_suits d p) ≡ true
  suits_under name o is p own v =
      subst (λ (x : Option ServiceDef). under x (λ d. policy_suits d p) ≡ true) (ap (def_of s) ((bytes_eq-Decides p.service name).0 own) ∙ is) (policy_parts s p v).suits

  abbrev frame : Option ServiceDef → Frame
  frame o = record { def = def; tag_def = o; time_zones = s.time_zones.items }

  own_passes : (o : Option ServiceDef) (p : Policy) → is_of service p ≡ true → policy_valid s p ≡ true → passes (frame o) Resource p ≡ true
  own_passes o p own v = let parts = policy_parts s p v in suiting_passes (frame o) Resource p (suits_under service (Some def) def_is p own v) parts.priority parts.schedules

  tag_passes : (t : List ℕ) (d : ServiceDef) → def_of s t ≡ Some d → (p : Policy) → is_of t p ≡ true → policy_valid s p ≡ true → passes (frame (Some d)) Tag p ≡ true
  tag_passes t d is p own v = let parts = policy_parts s p v in suiting_passes (frame (Some d)) Tag p (suits_under t (Some d) is p own v) parts.priority parts.schedules

  no_tag_policies : (ps : List Policy) → is_no_policy (filter (is_of_tag None) ps) ≡ true
  no_tag_policies [] = refl
  no_tag_policies (p ∷ ps) = no_tag_policies ps

  -- a policy of a service without a definition would not be valid
  no_policies : (t : List ℕ) → def_of s t ≡ None → (ps : List Policy) → list_all (policy_valid s) ps ≡ true → is_no_policy (filter (is_of t) ps) ≡ true
  no_policies t none [] all = refl
  no_policies t none (p ∷ ps) all =
      let both = and_parts (policy_valid s p) (list_all (policy_valid s) ps) all in
      case (λ b. is_of t p ≡ b → is_no_policy (cond b (p ∷ filter (is_of t) ps) (filter (is_of t) ps)) ≡ true) (is_of t p)
      (λ _ own. absurd (false≢true (suits_under t None none p own both.0))) (λ _ _. no_policies t none ps both.1) refl

  tag_policies_are : (o : Option (List ℕ)) → tag_service_of s service ≡ o
      → tag_policies_pass (frame (option_and_then (def_of s) o)) (option_and_then (def_of s) o) (filter (is_of_tag o) s.policies.items) ≡ true
  tag_policies_are None is = no_tag_policies s.policies.items
  tag_policies_are (Some t) is = go (def_of s t) refl
    where
      go : (o : Option ServiceDef) → def_of s t ≡ o → tag_policies_pass (frame o) o (filter (is_of t) s.policies.items) ≡ true
      go None h = no_policies t h s.policies.items valid.policies
      go (Some d) h = filter_all (is_of t) (policy_valid s) (passes (frame (Some d)) Tag) (tag_passes t d h) s.policies.items valid.policies

  policies_are : policies_sound facts ≡ true
  unfolding policies_sound
  policies_are =
      and_from (is_none (bad_rule s.time_zones.items)) _ valid.time_zones
      (and_from (list_all (passes (frame_of facts) Resource) (filter (is_of service) s.policies.items)) _
      (filter_all (is_of service) (policy_valid s) (passes (frame_of facts) Resource) (own_passes (option_and_then (def_of s) (tag_service_of s service))) s.policies.items valid.policies)
      (tag_policies_are (tag_service_of s service) refl))

  roles_are : roles_sound facts ≡ true
  unfolding roles_sound
  roles_are =
      let fit = subjects_fit (names_of s.roles.items) in
      and_from (is_none (fault_of s.roles.items)) _ valid.roles
      (and_from (list_all fit (filter (is_of service) s.policies.items)) _
      (filter_all (is_of service) (policy_valid s) fit (λ p _ v. (policy_parts s p v).subjects) s.policies.items valid.policies)
      (filter_all (is_of_tag (tag_service_of s service)) (policy_valid s) fit (λ p _ v. (policy_parts s p v).subjects) s.policies.items valid.policies))

  own_zone : (p : Policy) → is_of service p ≡ true → policy_valid s p ≡ true → policy_zone_fits (is_tag_def def) service s.zones.items p ≡ true
  own_zone p own v =
      let same = (bytes_eq-Decides p.service service).0 own in
      subst (λ n. policy_zone_fits (is_tag_def def) n s.zones.items p ≡ true) same
      (subst (λ b. policy_zone_fits b p.service s.zones.items p ≡ true) (ap (is_tag_service s) same ∙ sym (tag_test s service def def_is)) (policy_parts s p v).zone)

  tag_zone : (p : Policy) → policy_valid s p ≡ true → tag_policy_zone_fits s.zones.items p ≡ true
  tag_zone p v =
      let by_name = λ (z : ZoneRow). bytes_eq z.name p.zone in
      case (λ b. (b || list_any (is_zone_of (is_tag_service s p.service) p.service p.zone) s.zones.items) ≡ true → (b || list_any by_name s.zones.items) ≡ true) (is_empty p.zone)
      (λ _ _. refl)
      (λ _ some. let z = any_holds (is_zone_of (is_tag_service s p.service) p.service p.zone) s.zones.items some in any_from by_name s.zones.items z.0 z.1 (and_parts (bytes_eq z.0.name p.zone) _ z.2).0)
      (policy_parts s p v).zone

  zone_names_are : zone_names_sound facts ≡ true
  unfolding zone_names_sound
  zone_names_are =
      and_from (list_all (policy_zone_fits (is_tag_def def) service s.zones.items) (filter (is_of service) s.policies.items)) _
      (filter_all (is_of service) (policy_valid s) (policy_zone_fits (is_tag_def def) service s.zones.items) own_zone s.policies.items valid.policies)
      (filter_all (is_of_tag (tag_service_of s service)) (policy_valid s) (tag_policy_zone_fits s.zones.items) (λ p _ v. tag_zone p v) s.policies.items valid.policies)

  -- ids are distinct over the two lists
  ids_apart : (p : Policy) → is_of service p ≡ true → is_of_tag (tag_service_of s service) p ≡ false
  ids_apart p own = go (tag_service_of s service) refl
    where
      go : (o : Option (List ℕ)) → tag_service_of s service ≡ o → is_of_tag o p ≡ false
      go None is = refl
      go (Some t) is = let w = with_tag s service t is in ap (λ n. bytes_eq n t) ((bytes_eq-Decides p.service service).0 own) ∙ not_itself s valid.services service t w.row w.found w.tag

  ids_are : ids_sound (filter (is_of service) s.policies.items ++ filter (is_of_tag (tag_service_of s service)) s.policies.items) ≡ true
  unfolding ids_sound
  ids_are =
      let tag = is_of_tag (tag_service_of s service) in
      let positive = λ (p : Policy). int_lt (pos 0) p.id.0 in
      let from = λ (p : Policy) (v : is_given s p ≡ true). (and_parts (int_lt (pos 0) p.id.0) (int_lt p.id.0 s.next_id) v).0 in
      and_from (list_all positive (filter (is_of service) s.policies.items ++ filter tag s.policies.items)) _
      (list_all-append positive (filter (is_of service) s.policies.items) (filter tag s.policies.items)
      ∙ and_from (list_all positive (filter (is_of service) s.policies.items)) (list_all positive (filter tag s.policies.items))
      (filter_all (is_of service) (is_given s) positive (λ p _ v. from p v) s.policies.items given) (filter_all tag (is_given s) positive (λ p _ v. from p v) s.policies.items given))
      (distinct_parts same_id (λ p q. int_eq_equiv.symm p.id.0 q.id.0) (is_of service) tag ids_apart s.policies.items valid.policy_ids)

  -- ---- zones

  -- no service is listed twice, and no tag service
  once : (z : ZoneRow) → ZoneParts s z → (all_distinct same_name (service_names z) ≡ true) × (all_distinct same_name z.tag_services.items ≡ true)
  once z parts =
      let both = all_distinct same_name (service_names z) && all_distinct same_name z.tag_services.items in
      and_parts (all_distinct same_name (service_names z)) (all_distinct same_name z.tag_services.items)
      (and_parts both (list_all (λ t. not (is_among t (service_names z))) z.tag_services.items) parts.once).0

  listed_by : (z : ZoneRow) → ZoneParts s z → listing_fits (is_tag_service s service) service z ≡ true
  listed_by z parts =
      case (λ b. is_tag_service s service ≡ b → (leb (times_listed service z) (cond b 0 1) && leb (times_tagged service z) (cond b 1 0)) ≡ true) (is_tag_service s service)
      (λ _ is. and_from (leb (times_listed service z) 0) (leb (times_tagged service z) 1)
      (le-leb (times_listed service z) 0 (let none = none_left (is_for service) z.services.items (λ e there. not_for e there is) in omega (arith, none)))
      (le-leb (times_tagged service z) 1 (at_most_one same_name (λ t. bytes_eq t service) (λ a b x y. same_texts service a b x y) z.tag_services.items (once z parts).1)))
      (λ _ other. and_from (leb (times_listed service z) 1) (leb (times_tagged service z) 0)
      (le-leb (times_listed service z) 1 (at_most_one (λ (a b : ZoneService). same_name a.service b.service) (is_for service) (λ a b x y. same_texts service a.service b.service x y) z.services.items
      (sym (all_distinct-map same_name (λ (e : ZoneService). e.service) z.services.items) ∙ (once z parts).0)))
      (le-leb (times_tagged service z) 0 (let none = none_left (λ t. bytes_eq t service) z.tag_services.items (λ t there. not_tag t there other) in omega (arith, none))))
      refl
    where
      not_for : (e : ZoneService) → Contains z.services.items e → is_tag_service s service ≡ true → is_for service e ≡ false
      not_for e there is = case (λ b. bytes_eq e.service service ≡ b → b ≡ false) (bytes_eq e.service service)
          (λ _ same. sym is ∙ sym (ap (is_tag_service s) ((bytes_eq-Decides e.service service).0 same))
          ∙ listed_plain s valid e.service (all_holds (λ (x : ZoneService). is_among x.service (plain_services s)) z.services.items parts.services e there)) (λ _ _. refl) refl

      not_tag : (t : List ℕ) → Contains z.tag_services.items t → is_tag_service s service ≡ false → bytes_eq t service ≡ false
      not_tag t there other = case (λ b. bytes_eq t service ≡ b → b ≡ false) (bytes_eq t service)
          (λ _ same. sym (listed_tag s valid t (all_holds (λ name. is_among name (tag_services s)) z.tag_services.items parts.tags t there)) ∙ ap (is_tag_service s) ((bytes_eq-Decides t service).0 same) ∙ other) (λ _ _. refl) refl

  listing : (z : ZoneRow) → zone_valid s z ≡ true → listing_fits (is_tag_def def) service z ≡ true
  listing z v = subst (λ b. listing_fits b service z ≡ true) (sym (tag_test s service def def_is)) (listed_by z (zone_parts s z v))

  maps : (z : ZoneRow) → zone_valid s z ≡ true → maps_fit service def z ≡ true
  maps z v =
      let parts = zone_parts s z v in
      and_from (zone_levels_fit service def z) (zone_values_fit service z)
      (all_weaker (λ (e : ZoneService). under (def_of s e.service) (λ d. entry_levels_fit d e)) (λ (e : ZoneService). not (is_for service e) || entry_levels_fit def e) z.services.items levels parts.levels)
      (all_weaker entry_values_fit (λ (e : ZoneService). not (is_for service e) || entry_values_fit e) z.services.items
      (λ e _ h. case (λ b. (not b || entry_values_fit e) ≡ true) (is_for service e) (λ _. h) (λ _. refl)) parts.values)
    where
      levels : (e : ZoneService) → Contains z.services.items e → under (def_of s e.service) (λ d. entry_levels_fit d e) ≡ true → (not (is_for service e) || entry_levels_fit def e) ≡ true
      levels e there h = case (λ b. bytes_eq e.service service ≡ b → (not b || entry_levels_fit def e) ≡ true) (bytes_eq e.service service)
          (λ _ same. subst (λ (o : Option ServiceDef). under o (λ d. entry_levels_fit d e) ≡ true) (ap (def_of s) ((bytes_eq-Decides e.service service).0 same) ∙ def_is) h) (λ _ _. refl) refl

  overlaps : is_none (first_overlap service def s.zones.items) ≡ true
  unfolding are_apart are_apart_for
  overlaps =
      let found = find_contained (is_service service) s.services.items row row_is in
      let own = all_holds (λ (r : ServiceRow). are_apart_for s s.zones.items r.name) s.services.items valid.apart row found.0 in
      let named = subst (λ n. under (def_of s n) (λ d. is_none (first_overlap n d s.zones.items)) ≡ true) ((bytes_eq-Decides row.name service).0 found.1) own in
      subst (λ (o : Option ServiceDef). under o (λ d. is_none (first_overlap service d s.zones.items)) ≡ true) def_is named

  zones_are : zones_sound facts ≡ true
  unfolding zones_sound
  zones_are =
      and_from (list_all (listing_fits (is_tag_def def) service) s.zones.items) _ (all_weaker (zone_valid s) (listing_fits (is_tag_def def) service) s.zones.items (λ z _ v. listing z v) valid.zones)
      (and_from (list_all (subjects_exist (names_of s.roles.items)) s.zones.items) _ (all_weaker (zone_valid s) (subjects_exist (names_of s.roles.items)) s.zones.items (λ z _ v. (zone_parts s z v).subjects) valid.zones)
      (and_from (list_all (maps_fit service def) s.zones.items) _ (all_weaker (zone_valid s) (maps_fit service def) s.zones.items (λ z _ v. maps z v) valid.zones) overlaps))

  -- ---- tag rows

  rows_under : (r : TagRow) → is_row_of service r ≡ true → tag_row_valid s r ≡ true → row_sound def r ≡ true
  rows_under r own v =
      let parts = row_parts s r v in
      and_from (tagged_fit def r.resources.items) (tags_fit r.tags.items)
      (subst (λ (o : Option ServiceDef). under o (λ e. tagged_fit e r.resources.items) ≡ true) (ap (def_of s) ((bytes_eq-Decides r.service service).0 own) ∙ def_is) parts.resources) parts.tags

  rows_are : tag_rows_sound def (filter (is_row_of service) s.tag_rows.items) ≡ true
  unfolding tag_rows_sound
  rows_are =
      and_from (list_all (row_sound def) (filter (is_row_of service) s.tag_rows.items)) _
      (filter_all (is_row_of service) (tag_row_valid s) (row_sound def) rows_under s.tag_rows.items valid.tag_rows)
      (all_distinct-map int_eq (λ (r : TagRow). r.id) (filter (is_row_of service) s.tag_rows.items)
      ∙ distinct_filtered (λ (x y : TagRow). int_eq x.id y.id) (is_row_of service) s.tag_rows.items valid.tag_row_ids)

  -- ---- all of it

  versions_are : l.policy_version.0 ≤ 2 ^ 62 → l.tag_version.0 ≤ 2 ^ 62 → s.role_version.0 ≤ 2 ^ 62 → versions_fit facts ≡ true
  versions_are p t r =
      and_from (leb l.policy_version.0 (2 ^ 62)) _ (le-leb l.policy_version.0 (2 ^ 62) p)
      (and_from (leb l.tag_version.0 (2 ^ 62)) (leb s.role_version.0 (2 ^ 62)) (le-leb l.tag_version.0 (2 ^ 62) t) (le-leb s.role_version.0 (2 ^ 62) r))

  pub facts_sound : l.policy_version.0 ≤ 2 ^ 62 → l.tag_version.0 ≤ 2 ^ 62 → s.role_version.0 ≤ 2 ^ 62 → sound facts ≡ true
  unfolding sound
  facts_sound p t r =
      and_from (versions_fit facts) _ (versions_are p t r)
      (and_from (defs_sound facts) _ defs_are
      (and_from (ids_sound (filter (is_of service) s.policies.items ++ filter (is_of_tag (tag_service_of s service)) s.policies.items)) _ ids_are
      (and_from (roles_sound facts) _ roles_are
      (and_from (zone_names_sound facts) _ zone_names_are
      (and_from (zones_sound facts) _ zones_are
      (and_from (tag_rows_sound def (filter (is_row_of service) s.tag_rows.items)) _ rows_are
      (and_from (policies_sound facts) _ policies_are refl)))))))

-- every view of a valid state with low versions is sound
pub view_sound : (a : Administration) (service : List ℕ) (f : Facts) → IsValid a.state → list_all (is_given a.state) a.state.policies.items ≡ true → ((l : Log) → log_at a.logs service ≡ Some l → (l.policy_version.0 ≤ 2 ^ 62) × (l.tag_version.0 ≤ 2 ^ 62))
    → a.state.role_version.0 ≤ 2 ^ 62 → view a service ≡ Some f → sound f ≡ true
view_sound a service f valid given low roles is =
    let v = viewed a service f is in
    let few = low v.log v.log_is in
    subst (λ g. sound g ≡ true) v.facts_are (facts_sound a.state valid given service v.log v.row v.def v.row_is v.def_is few.0 few.1 roles)
