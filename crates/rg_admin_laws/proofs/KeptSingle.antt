-- For proofs alone: V13 holds of each policy after every step, and what else an administration keeps beyond validity.
use Rattle.std.proofs.Common.{◌≡◌, ◌⊎◌, ◌&&◌, ◌||◌, ℤ, pos, int_lt, Bool, true, false, not, Contains, List, [], ◌∷◌, ◌++◌, Option, Some, None, refl, ap, sym, ◌∙◌, subst, inl, inr}
use Rattle.std.specs.List.{list_all, list_any}
use Rattle.std.proofs.lemmas.Bool.{and_parts, false≢true}
use Rattle.std.proofs.lemmas.Cmp.{int_eq_equiv}
use Rattle.std.proofs.lemmas.List.Elements.{Contains-append_cases}
use Rattle.rg_base.proofs.Lists.{Contains-cases, Contains-filtered, Contains-none, all_from, all_holds}
use Rattle.rg_policy.specs.Maps.{maps_of}
use Rattle.rg_policy.specs.declared.policy.Policy.{Policy}
use Rattle.rg_policy.specs.declared.policy.ScheduleText.{ScheduleText}
use Rattle.rg_defs.specs.Rules.{tag_name}
use Rattle.rg_defs.specs.declared.service_def.ServiceDef.{ServiceDef}
use Rattle.rg_tags.specs.declared.row.TagRow.{TagRow}
use Rattle.rg_cmd.specs.Lists.{put}
use Rattle.rg_cmd.specs.Lookups.{has_def, has_id, has_row_id, is_service, tag_row_at}
use Rattle.rg_cmd.specs.declared.ask.AdminCommand.{AdminCommand}
use Rattle.rg_cmd.specs.declared.ask.AdminCommand.TheVariants.{CreatePolicy, CreateService, DeletePolicy, DeleteService, DeleteTags, PutTags, UpdatePolicy, UpdateService}
use Rattle.rg_cmd.specs.declared.rule.Rule.TheVariants.{G4, V13}
use Rattle.rg_cmd.specs.declared.state.State.{State}
use Rattle.rg_validate.specs.Definitions.{plugin_fits}
use Rattle.rg_validate.specs.Failing.{first_failing}
use Rattle.rg_validate.specs.Policies.{has_no_twin, is_other, policy_rules}
use Rattle.rg_validate.specs.Rules.{command_rules, policy_exists, rules_under, service_exists}
use Rattle.rg_validate.specs.Tags.{row_id_fits, row_stays_in}
use Rattle.rg_same_resources.specs.Twins.{each_map_in, is_twin, same_flag, same_kind, same_maps, same_schedule, same_schedules}
use Rattle.rg_validate.specs.Valid.{policy_is_single}
use Rattle.rg_admin_laws.specs.Changes.{after_command, created_form, stored_row, updated_form}
use Rattle.rg_admin_laws.specs.Steps.{counted}
use Rattle.rg_admin_laws.proofs.KeptRoles.{put_cases, text_turn}
use Rattle.rg_admin_laws.proofs.Lists.{all_put, case, filter_all, find_append, find_some, find_without, none_from, none_passes, not_true}
use Rattle.rg_admin_laws.proofs.Moves.{other_name}
use Rattle.rg_admin_laws.proofs.Orderly.{ServicesValid, def_there, is_update, not_plugin, updated_def}
use Rattle.rg_admin_laws.proofs.Passing.{passed_at}

-- ---- two policies clash, or neither does

flag_turn : (a b : Bool) → same_flag a b ≡ same_flag b a
flag_turn true true = refl
flag_turn true false = refl
flag_turn false true = refl
flag_turn false false = refl

schedule_turn : (a b : ScheduleText) → same_schedule a b ≡ same_schedule b a
schedule_turn a b = λ i. text_turn b.start_time a.start_time i && (text_turn b.end_time a.end_time i && (text_turn b.time_zone a.time_zone i && flag_turn a.recurring b.recurring i))

schedules_turn : (xs ys : List ScheduleText) → same_schedules xs ys ≡ same_schedules ys xs
schedules_turn [] [] = refl
schedules_turn [] (y ∷ ys) = refl
schedules_turn (x ∷ xs) [] = refl
schedules_turn (x ∷ xs) (y ∷ ys) = λ i. schedule_turn x y i && schedules_turn xs ys i

and_turn : (a b : Bool) → (a && b) ≡ (b && a)
and_turn true true = refl
and_turn true false = refl
and_turn false true = refl
and_turn false false = refl

kind_turn : (p q : Policy) → same_kind p q ≡ same_kind q p
kind_turn p q = λ i. (text_turn p.service q.service i && text_turn p.zone q.zone i) && (int_eq_equiv.symm q.policy_type p.policy_type i && (int_eq_equiv.symm q.priority p.priority i && schedules_turn p.schedules.items q.schedules.items i))

-- both are enabled, of one kind, and have the same maps
abbrev clash : Policy → Policy → Bool
clash p q = p.enabled && is_twin p q

three_turn : (a b c d : Bool) → c ≡ d → (a && (b && c)) ≡ (b && (a && d))
three_turn true b c d same = ap (λ x. b && x) same
three_turn false true c d same = refl
three_turn false false c d same = refl

clash_turn : (p q : Policy) → clash p q ≡ clash q p
clash_turn p q = three_turn p.enabled q.enabled (same_kind p q && same_maps (maps_of p) (maps_of q)) (same_kind q p && same_maps (maps_of q) (maps_of p))
    (λ i. kind_turn p q i && and_turn (each_map_in (maps_of p) (maps_of q)) (each_map_in (maps_of q) (maps_of p)) i)

-- no policy of these, but for those of the id, clashes with it
abbrev Clear : List Policy → ℤ → Policy → Type 0
Clear policies id p = (q : Policy) → Contains policies q → has_id id q ≡ false → clash p q ≡ false

clear_of : (policies : List Policy) (t : Policy → Bool) (p : Policy) → (not p.enabled || not (list_any (λ q. t q && is_twin p q) policies)) ≡ true → (q : Policy) → Contains policies q → t q ≡ true → clash p q ≡ false
clear_of policies t p h q there tested = case (λ b. p.enabled ≡ b → (not b || not (list_any (λ r. t r && is_twin p r) policies)) ≡ true → (b && is_twin p q) ≡ false) p.enabled
    (λ _ _ none. ap (λ b. b && is_twin p q) (sym tested) ∙ none_passes (λ r. t r && is_twin p r) policies (not_true (list_any (λ r. t r && is_twin p r) policies) none) q there)
    (λ _ _ _. refl) refl h

single_from : (policies : List Policy) (p : Policy) → Clear policies p.id.0 p → (not p.enabled || not (list_any (λ q. not (has_id p.id.0 q) && is_twin p q) policies)) ≡ true
single_from policies p clear = case (λ b. p.enabled ≡ b → (not b || not (list_any (λ q. not (has_id p.id.0 q) && is_twin p q) policies)) ≡ true) p.enabled
    (λ _ is. ap not (none_from (λ q. not (has_id p.id.0 q) && is_twin p q) policies (λ q there.
    case (λ b. has_id p.id.0 q ≡ b → (not b && is_twin p q) ≡ false) (has_id p.id.0 q) (λ _ _. refl) (λ _ other. ap (λ b. b && is_twin p q) (sym is) ∙ clear q there other) refl)))
    (λ _ _. refl) refl

abbrev AllClear : List Policy → Type 0
AllClear policies = (p : Policy) → Contains policies p → Clear policies p.id.0 p

all_clear : (s : State) → list_all (policy_is_single s) s.policies.items ≡ true → AllClear s.policies.items
unfolding has_no_twin
all_clear s single p there q q_there other = clear_of s.policies.items (λ r. not (has_id p.id.0 r)) p (all_holds (policy_is_single s) s.policies.items single p there) q q_there (ap not other)

all_single : (s : State) → AllClear s.policies.items → list_all (policy_is_single s) s.policies.items ≡ true
unfolding has_no_twin
all_single s clear = all_from (policy_is_single s) s.policies.items (λ p there. single_from s.policies.items p (clear p there))

-- ---- what is put is clear

turned_other : (p q : Policy) → has_id p.id.0 q ≡ false → has_id q.id.0 p ≡ false
turned_other p q other = int_eq_equiv.symm p.id.0 q.id.0 ∙ other

own_id : (p : Policy) → has_id p.id.0 p ≡ true
own_id p = int_eq_equiv.refl p.id.0

-- where one more is clear of the others, all are
more_clear : (policies new : List Policy) (x : Policy) → ((p : Policy) → Contains new p → (p ≡ x) ⊎ Contains policies p) → AllClear policies → Clear policies x.id.0 x → AllClear new
more_clear policies new x from clear own p p_there q q_there other = elim (from p p_there) [
  | inl p_is ↦ elim (from q q_there) [
    | inl q_is ↦ absurd (false≢true (sym other ∙ (λ i. has_id (p_is i).id.0 (q_is i)) ∙ own_id x))
    | inr q_old ↦ subst (λ r. has_id r.id.0 q ≡ false → clash r q ≡ false) (sym p_is) (own q q_old) other
  ]
  | inr p_old ↦ elim (from q q_there) [
    | inl q_is ↦ subst (λ r. has_id p.id.0 r ≡ false → clash p r ≡ false) (sym q_is) (λ apart. clash_turn p x ∙ own p p_old (turned_other p x apart)) other
    | inr q_old ↦ clear p p_old q q_old other
  ]
]

snoc_cases : (policies : List Policy) (x p : Policy) → Contains (policies ++ x ∷ []) p → (p ≡ x) ⊎ Contains policies p
snoc_cases policies x p there = elim (Contains-append_cases policies (x ∷ []) p there) [ inl old ↦ inr old | inr new ↦ elim (Contains-cases x [] p new) [ inl is ↦ inl (sym is) | inr none ↦ absurd (Contains-none p none) ] ]

created_clear : (s : State) → ServicesValid s → (p : Policy) → first_failing (command_rules s (CreatePolicy p)) ≡ None → Clear s.policies.items (created_form s p).id.0 (created_form s p)
unfolding has_no_twin
created_clear s services p h q there other =
    let def = def_there s services p.service (passed_at (command_rules s (CreatePolicy p)) h 0 (service_exists s p.service) refl) in
    let asked = λ (d : Option ServiceDef). service_exists s p.service ∷ rules_under d (policy_rules s None p) in
    clear_of s.policies.items (λ r. is_other None r) p (passed_at (asked (Some def.0)) (subst (λ d. first_failing (asked d) ≡ None) def.1 h) 13 (V13, has_no_twin s None p) refl) q there refl

updated_clear : (s : State) → ServicesValid s → (p : Policy) → first_failing (command_rules s (UpdatePolicy p)) ≡ None → Clear s.policies.items (updated_form s p).id.0 (updated_form s p)
unfolding has_no_twin
updated_clear s services p h q there other =
    let def = def_there s services p.service (passed_at (command_rules s (UpdatePolicy p)) h 1 (service_exists s p.service) refl) in
    let asked = λ (d : Option ServiceDef). policy_exists s p.id.0 ∷ service_exists s p.service ∷ rules_under d (policy_rules s (Some p.id) p) in
    clear_of s.policies.items (λ r. is_other (Some p.id) r) p (passed_at (asked (Some def.0)) (subst (λ d. first_failing (asked d) ≡ None) def.1 h) 14 (V13, has_no_twin s (Some p.id) p) refl) q there (ap not other)

-- other lists play no part
single_same : (s later : State) → later.policies ≡ s.policies → list_all (policy_is_single s) s.policies.items ≡ true → list_all (policy_is_single later) later.policies.items ≡ true
unfolding has_no_twin
single_same s later same h = subst (λ ps. list_all (λ p. not p.enabled || not (list_any (λ q. not (has_id p.id.0 q) && is_twin p q) ps.items)) ps.items ≡ true) (sym same) h

pub single_counted : (s : State) → list_all (policy_is_single s) s.policies.items ≡ true → list_all (policy_is_single (counted s)) s.policies.items ≡ true
single_counted s h = single_same s (counted s) refl h

pub single_after : (s : State) → ServicesValid s → list_all (policy_is_single s) s.policies.items ≡ true → (c : AdminCommand) → first_failing (command_rules s c) ≡ None
    → list_all (policy_is_single (after_command s c)) (after_command s c).policies.items ≡ true
single_after s services single (CreatePolicy p) h = all_single (after_command s (CreatePolicy p))
    (more_clear s.policies.items (s.policies.items ++ created_form s p ∷ []) (created_form s p) (λ q there. snoc_cases s.policies.items (created_form s p) q there) (all_clear s single) (created_clear s services p h))
single_after s services single (UpdatePolicy p) h = all_single (after_command s (UpdatePolicy p))
    (more_clear s.policies.items (put (has_id p.id.0) (updated_form s p) s.policies.items) (updated_form s p) (λ q there. put_cases (has_id p.id.0) (updated_form s p) s.policies.items q there) (all_clear s single) (updated_clear s services p h))
single_after s services single (DeletePolicy id) h = all_single (after_command s (DeletePolicy id))
    (λ p p_there q q_there other. all_clear s single p (Contains-filtered (λ r. not (has_id id.0 r)) s.policies.items p p_there).0 q (Contains-filtered (λ r. not (has_id id.0 r)) s.policies.items q q_there).0 other)
single_after s services single c h = single_same s (after_command s c) refl single

-- ---- the rest

pub rows_given_after : (s : State) → list_all (λ (row : TagRow). int_lt (pos 0) row.id) s.tag_rows.items ≡ true → (c : AdminCommand) → first_failing (command_rules s c) ≡ None
    → list_all (λ (row : TagRow). int_lt (pos 0) row.id) (after_command s c).tag_rows.items ≡ true
rows_given_after s given (PutTags id row) h = all_put (λ (r : TagRow). int_lt (pos 0) r.id) (has_row_id id) (stored_row id row) s.tag_rows.items given
    (and_parts (int_lt (pos 0) id) (row_stays_in (tag_row_at s id) row) (passed_at (command_rules s (PutTags id row)) h 4 (G4, row_id_fits s id row) refl)).0
rows_given_after s given (DeleteTags id) h = filter_all (λ r. not (has_row_id id r)) (λ (r : TagRow). int_lt (pos 0) r.id) (λ (r : TagRow). int_lt (pos 0) r.id) (λ _ _ its. its) s.tag_rows.items given
rows_given_after s given c h = given

-- C6: the plugin's service isn't one for tags
pub plugin_fits_after : (s : State) → list_any (is_service s.plugin) s.services.items ≡ true → plugin_fits s ≡ true → (c : AdminCommand) → first_failing (command_rules s c) ≡ None → plugin_fits (after_command s c) ≡ true
plugin_fits_after s there fits (CreateService row) h =
    let q = find_some (is_service s.plugin) s.services.items there in
    ap (λ o. not (has_def tag_name o)) (find_append (is_service s.plugin) s.services.items (row ∷ []) q.0 q.1 ∙ sym q.1) ∙ fits
plugin_fits_after s there fits (UpdateService row) h = ap not (updated_def s row (is_update s row h) tag_name s.plugin) ∙ fits
plugin_fits_after s there fits (DeleteService name) h =
    ap (λ o. not (has_def tag_name o)) (find_without (is_service s.plugin) (is_service name) (λ y is. other_name name s.plugin y.name (not_plugin s name h) is) s.services.items) ∙ fits
plugin_fits_after s there fits c h = fits
