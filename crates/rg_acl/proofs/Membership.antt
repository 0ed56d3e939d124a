-- Facts in which role rows name more users: sound where the facts are, and their engine answers as the deltas leave it.
use Rattle.std.proofs.Common.{◌≡◌, ◌&&◌, ◌||◌, ◌+◌, ◌++◌, ◌<◌, ◌≤◌, ℕ, get_or, zero, suc, Bool, true, cond, List, [], ◌∷◌, length, map, take, Some, None, is_none, option_map, slice_index_or, le_refl, refl, sym, subst, ap, ◌∙◌, arith}
use Rattle.std.specs.List.{list_all, list_any}
use Rattle.std.specs.Option.{option_or}
use Rattle.std.specs.Str.{bytes_eq}
use Rattle.std.proofs.lemmas.List.{length-take-le}
use Rattle.rg_base.specs.Counts.{Counts}
use Rattle.rg_base.proofs.Lists.{list_any_agree, take_next}
use Rattle.rg_base.specs.Listed.{Listed, added, listed}
use Rattle.rg_base.specs.Names.{first_place}
use Rattle.rg_base.specs.Texts.{is_among}
use Rattle.rg_cmd.specs.declared.download.PolicyDelta.{PolicyDelta}
use Rattle.rg_cmd.specs.declared.download.RoleDelta.{RoleDelta}
use Rattle.rg_cmd.specs.declared.download.TagDelta.{TagDelta}
use Rattle.rg_delta.specs.Applied.{applied}
use Rattle.rg_engine.specs.Bounds.{WorkWithin, bound_on, made, pairs_of_changes}
use Rattle.rg_facts.specs.Flow.{eval}
use Rattle.rg_policy.specs.declared.request.AccessRequest.{AccessRequest}
use Rattle.rg_items.specs.PolicyRules.{subjects_fit}
use Rattle.rg_roles.specs.Chains.{leads, leads_within}
use Rattle.rg_roles.specs.Faults.{fault_of, first_row, is_absent, is_on_cycle, names_absent, repeats}
use Rattle.rg_roles.specs.Members.{name_at, names_of, names_role}
use Rattle.rg_roles.specs.declared.fault.RoleFault.TheVariants.{Duplicate, Unknown, Cycle}
use Rattle.rg_roles.specs.declared.row.RoleRow.{RoleRow}
use Rattle.rg_zone_rules.specs.Overlap.{first_overlap}
use Rattle.rg_zone_rules.specs.Rules.{all_maps_fit, listing_fits, subjects_exist}
use Rattle.rg_facts.specs.Sound.{all_policies, defs_sound, ids_sound, is_tag_def, policies_sound, roles_sound, sound, tag_rows_sound, versions_fit, zone_names_sound, zones_sound}
use Rattle.rg_facts.specs.declared.facts.Facts.{Facts}
use Rattle.rg_acl.specs.Strangers.{members_from, with_member, with_members}
use Rattle.rg_acl.specs.Work.{NothingMade}

place_agree : (p q : ℕ → Bool) → ((k : ℕ) → p k ≡ q k) → (n : ℕ) → first_place p n ≡ first_place q n
place_agree p q e zero = refl
place_agree p q e (suc n) = λ i. option_or (place_agree p q e n i) (cond (e n i) (Some n) None)

module _ (stranger : List ℕ) where
  any_member : (f g : RoleRow → Bool) → ((k : ℕ) (row : RoleRow) → f (with_member stranger k row) ≡ g row) → (k : ℕ) (rows : List RoleRow)
      → list_any f (members_from stranger k rows) ≡ list_any g rows
  any_member f g e k [] = refl
  any_member f g e k (row ∷ rows) = λ i. e k row i || any_member f g e (suc k) rows i

  pub same_names : (k : ℕ) (rows : List RoleRow) → names_of (members_from stranger k rows) ≡ names_of rows
  same_names k [] = refl
  same_names k (row ∷ rows) = ap (λ names. row.name ∷ names) (same_names (suc k) rows)

  abbrev roles : List RoleRow → List (List (List ℕ))
  roles rows = map (λ (row : RoleRow). row.roles.items) rows

  same_roles : (k : ℕ) (rows : List RoleRow) → roles (members_from stranger k rows) ≡ roles rows
  same_roles k [] = refl
  same_roles k (row ∷ rows) = ap (λ others. row.roles.items ∷ others) (same_roles (suc k) rows)

  same_length : (k : ℕ) (rows : List RoleRow) → length (members_from stranger k rows) ≡ length rows
  same_length k [] = refl
  same_length k (row ∷ rows) = ap suc (same_length (suc k) rows)

  -- one more row
  pub members_push : (k : ℕ) (rows : List RoleRow) (row : RoleRow)
      → members_from stranger k (rows ++ row ∷ []) ≡ members_from stranger k rows ++ with_member stranger (k + length rows) row ∷ []
  members_push k [] row = let e : k ≡ k + 0 = omega arith in ap (λ n. with_member stranger n row ∷ []) e
  members_push k (r ∷ rows) row =
      let e : suc k + length rows ≡ k + length (r ∷ rows) = omega arith in
      ap (λ others. with_member stranger k r ∷ others) (members_push (suc k) rows row ∙ ap (λ n. members_from stranger (suc k) rows ++ with_member stranger n row ∷ []) e)

  -- the rows up to the next place
  pub members_next : (rows : List RoleRow) (place : ℕ) (row : RoleRow) → place < length rows → row ≡ get_or rows place row
      → listed (members_from stranger 0 (take (place + 1) rows)) ≡ added (listed (members_from stranger 0 (take place rows))) (with_member stranger place row)
  members_next rows place row there is =
      let e : 0 + length (take place rows) ≡ place = let l = length-take-le place rows (omega (arith, there)) in omega (arith, l) in
      ap (λ rs. listed (members_from stranger 0 rs)) (take_next place rows row there is)
      ∙ ap listed (members_push 0 (take place rows) row)
      ∙ (λ i. listed (members_from stranger 0 (take place rows) ++ with_member stranger (e i) row ∷ []))

  module _ (rows : List RoleRow) where
    abbrev more : List RoleRow
    more = members_from stranger 0 rows

    within_same : (name : List ℕ) (n : ℕ) (role : List ℕ) → leads_within n more (names_role name) role ≡ leads_within n rows (names_role name) role
    within_same name zero role = refl
    within_same name (suc n) role =
        any_member (λ (row : RoleRow). bytes_eq row.name role && (names_role name row || list_any (leads_within n more (names_role name)) row.roles.items))
        (λ (row : RoleRow). bytes_eq row.name role && (names_role name row || list_any (leads_within n rows (names_role name)) row.roles.items))
        (λ k row. ap (λ b. bytes_eq row.name role && (names_role name row || b))
        (list_any_agree (leads_within n more (names_role name)) (leads_within n rows (names_role name)) (within_same name n) row.roles.items)) 0 rows

    leads_same : (name role : List ℕ) → leads more (names_role name) role ≡ leads rows (names_role name) role
    unfolding leads
    leads_same name role = ap (λ n. leads_within n more (names_role name) role) (same_length 0 rows) ∙ within_same name (length rows) role

    repeats_same : (k : ℕ) → repeats more k ≡ repeats rows k
    repeats_same k = ap (λ (names : List (List ℕ)). is_among (slice_index_or names k []) (take k names)) (same_names 0 rows)

    absent_same : (k : ℕ) → names_absent more k ≡ names_absent rows k
    absent_same k = λ i. list_any (is_absent (same_names 0 rows i)) (slice_index_or (same_roles 0 rows i) k [])

    cycle_same : (k : ℕ) → is_on_cycle more k ≡ is_on_cycle rows k
    cycle_same k =
        ap (λ (names : List (List ℕ)). leads more (names_role (slice_index_or names k [])) (slice_index_or names k [])) (same_names 0 rows)
        ∙ leads_same (name_at rows k) (name_at rows k)

    row_same : (test : List RoleRow → ℕ → Bool) → ((k : ℕ) → test more k ≡ test rows k) → first_row test more ≡ first_row test rows
    row_same test e = ap (first_place (test more)) (same_length 0 rows) ∙ place_agree (test more) (test rows) e (length rows)

    fault_same : fault_of more ≡ fault_of rows
    unfolding fault_of
    fault_same = λ i. option_or (option_map Duplicate (row_same repeats repeats_same i))
        (option_or (option_map Unknown (row_same names_absent absent_same i)) (option_map Cycle (row_same is_on_cycle cycle_same i)))

  -- a delta that gives the facts these rows, and two that change nothing
  module _ (facts : Facts) where
    abbrev more_facts : Facts
    more_facts = with_members stranger facts

    sound_same : sound more_facts ≡ sound facts
    unfolding sound defs_sound roles_sound zone_names_sound zones_sound policies_sound
    sound_same =
        let rows = facts.roles.items in
        let names = same_names 0 rows in
        let zones = facts.zones.items in
        λ i. list_all (λ b. b) (
        versions_fit facts
        ∷ defs_sound facts
        ∷ ids_sound (all_policies facts)
        ∷ (is_none (fault_same rows i) && (list_all (subjects_fit (names i)) facts.policies.items && list_all (subjects_fit (names i)) facts.tag_policies.items))
        ∷ zone_names_sound facts
        ∷ (list_all (listing_fits (is_tag_def facts.def) facts.service) zones
        && (list_all (subjects_exist (names i)) zones && (all_maps_fit facts.service facts.def zones && is_none (first_overlap facts.service facts.def zones))))
        ∷ tag_rows_sound facts.def facts.tag_rows.items
        ∷ policies_sound facts ∷ [])

    abbrev no_policies : PolicyDelta
    no_policies = record { from = facts.policy_version; to = facts.policy_version; changes = listed []; zones = None }

    abbrev no_tags : TagDelta
    no_tags = record { from = facts.tag_version; to = facts.tag_version; changes = listed [] }

    abbrev more_roles : RoleDelta
    more_roles = record { from = facts.role_version; to = facts.role_version; roles = Some (listed (members_from stranger 0 facts.roles.items)) }

    abbrev moved : Facts
    moved = applied facts no_policies no_tags more_roles

    moved_sound : sound facts ≡ true → sound moved ≡ true
    unfolding sound defs_sound roles_sound zone_names_sound zones_sound policies_sound
    moved_sound h = sound_same ∙ h

    -- the same of deltas that are these
    module _ (p : PolicyDelta) (t : TagDelta) (rows : Listed RoleRow) (r : RoleDelta) (is_p : p ≡ no_policies) (is_t : t ≡ no_tags)
        (are : rows ≡ listed (members_from stranger 0 facts.roles.items)) (is_r : r ≡ record { from = facts.role_version; to = facts.role_version; roles = Some rows }) where
      gives_roles : r ≡ more_roles
      gives_roles = is_r ∙ (λ i. record { from = facts.role_version; to = facts.role_version; roles = Some (are i) })

      applied_is : applied facts p t r ≡ moved
      applied_is = λ i. applied facts (is_p i) (is_t i) (gives_roles i)

      pub applied_sound : sound facts ≡ true → sound (applied facts p t r) ≡ true
      applied_sound h = ap sound applied_is ∙ moved_sound h

      pub goes_forward : (p.from.0 ≤ p.to.0) × (t.from.0 ≤ t.to.0) × (r.from.0 ≤ r.to.0)
      goes_forward = (
        subst (λ (d : PolicyDelta). d.from.0 ≤ d.to.0) (sym is_p) (le_refl facts.policy_version.0),
        subst (λ (d : TagDelta). d.from.0 ≤ d.to.0) (sym is_t) (le_refl facts.tag_version.0),
        subst (λ (d : RoleDelta). d.from.0 ≤ d.to.0) (sym gives_roles) (le_refl facts.role_version.0),
      )

      pub answers_so : (e : Facts) → e ≡ applied facts p t r → (q : AccessRequest) → eval e q ≡ eval more_facts q
      answers_so e is q = ap (λ (f : Facts). eval f q) (is ∙ applied_is)

      pub bound_so : (e : Facts) → e ≡ applied facts p t r → (q : AccessRequest) → bound_on e q ≡ bound_on facts q
      bound_so e is q = ap (λ (f : Facts). bound_on f q) (is ∙ applied_is)

      pub nothing_made : (old new : Counts) → WorkWithin (made p.changes.items) (pairs_of_changes facts p t) old new → NothingMade old new × (new.tries ≡ old.tries)
      nothing_made old new work =
          let compiled : made p.changes.items ≡ 0 = ap (λ (d : PolicyDelta). made d.changes.items) is_p in
          let filed : pairs_of_changes facts p t ≡ 0 = λ i. pairs_of_changes facts (is_p i) (is_t i) in
          (record { compiles = omega (arith, work.compiled, compiled); edits = omega (arith, work.edited, filed) }, work.tries)
