-- That the values of policies and rows that pass their rules fit, and how they are filed.
use Rattle.std.proofs.Common.{◌≡◌, ◌&&◌, ◌+◌, ℕ, Bool, true, false, not, cond, List, [], ◌∷◌, map, Option, Some, None, is_none, option_map, refl, sym, ap, ◌∙◌}
use Rattle.std.proofs.lemmas.Bool.{and_parts}
use Rattle.std.specs.List.{find, list_all}
use Rattle.rg_policy.specs.declared.policy.Policy.{Policy}
use Rattle.rg_cond.specs.PolicyRules.{conditions_compile, schedules_read}
use Rattle.rg_defs.specs.declared.service_def.ServiceDef.{ServiceDef}
use Rattle.rg_resmatch.specs.Rules.{levels_fit, names_no_user, policy_levels_fit, policy_values_fit, tagged_fit, values_fit}
use Rattle.rg_tags.specs.declared.row.TagRow.{TagRow}
use Rattle.rg_items.specs.PolicyRules.{entries_fit, lists_fit, outcomes_fit, priority_fits, type_fits}
use Rattle.rg_evalr.specs.Compiling.{policy_fault, policy_rules}
use Rattle.rg_evalr.specs.Frames.{def_of}
use Rattle.rg_evalr.specs.Sources.{Source}
use Rattle.rg_evalr.specs.declared.frame.Frame.{Frame}
use Rattle.rg_evalr.specs.declared.frame.Side.{Side}
use Rattle.rg_facts.specs.Sound.{passes}
use Rattle.rg_index.specs.Changes.{forms_fit}
use Rattle.rg_policy_sets.specs.Bounds.{policy_forms, row_forms}
use Rattle.rg_policy_sets.specs.Kept.{Placed, held_forms, placed_from, policies_in, row_source_form, rows_in, slot_forms, source_form}
use Rattle.rg_policy_sets.specs.Seen.{RowSource, row_source, source}

abbrev first_failing : List (ℕ × Bool) → Option ℕ
first_failing rules = option_map (λ (r : ℕ × Bool). r.0) (find (λ (r : ℕ × Bool). not r.1) rules)

none_fails : (rules : List (ℕ × Bool)) → first_failing rules ≡ None → list_all (λ (r : ℕ × Bool). r.1) rules ≡ true
none_fails [] h = refl
none_fails (r ∷ rules) h =
    elim r.1 as (λ v. option_map (λ (x : ℕ × Bool). x.0) (cond (not v) (Some r) (find (λ (x : ℕ × Bool). not x.1) rules)) ≡ None → (v && list_all (λ (r : ℕ × Bool). r.1) rules) ≡ true) [
      | true ↦ λ rest. none_fails rules rest
      | false ↦ λ bad. let wrong : Some r.0 ≡ None = bad in cc
    ] h

pub no_fault : (frame : Frame) (side : Side) (p : Policy) → passes frame side p ≡ true → policy_fault frame side p ≡ None
no_fault frame side p h = at (policy_fault frame side p) refl h where
  at : (o : Option ℕ) → policy_fault frame side p ≡ o → is_none (policy_fault frame side p) ≡ true → policy_fault frame side p ≡ None
  at None e g = e
  at (Some n) e g = let wrong : is_none (Some n) ≡ true = ap is_none (sym e) ∙ g in cc

pub values_pass : (frame : Frame) (side : Side) (p : Policy) → policy_fault frame side p ≡ None → policy_values_fit (def_of frame side) p ≡ true
unfolding policy_fault
values_pass frame side p h =
    let def = def_of frame side in
    let all : (type_fits def p && (priority_fits p && (policy_levels_fit def p && (policy_values_fit def p && (lists_fit p
    && (entries_fit def p && (conditions_compile def p && (outcomes_fit def p && (schedules_read frame.time_zones p && true))))))))) ≡ true
    = none_fails (policy_rules frame side p) h in
    let a = and_parts (type_fits def p) _ all in
    let b = and_parts (priority_fits p) _ a.1 in
    let c = and_parts (policy_levels_fit def p) _ b.1 in
    (and_parts (policy_values_fit def p) _ c.1).0

pub passing_forms_fit : (frame : Frame) (side : Side) (n : ℕ) (policies : List Policy) → list_all (passes frame side) policies ≡ true
    → forms_fit (def_of frame side) (slot_forms source_form (placed_from n (map (source frame side) policies))) ≡ true
passing_forms_fit frame side n [] h = refl
passing_forms_fit frame side n (p ∷ policies) h =
    let parts = and_parts (passes frame side p) _ h in
    let rest = forms_fit (def_of frame side) (slot_forms source_form (placed_from (n + 1) (map (source frame side) policies))) in
    ap (λ b. b && rest) (values_pass frame side p (no_fault frame side p parts.0)) ∙ passing_forms_fit frame side (n + 1) policies parts.1

pub tagged_forms_fit : (def : ServiceDef) (n : ℕ) (rows : List TagRow) → list_all (λ (row : TagRow). tagged_fit def row.resources.items) rows ≡ true
    → forms_fit def (slot_forms row_source_form (placed_from n (map (row_source def) rows))) ≡ true
tagged_forms_fit def n [] h = refl
tagged_forms_fit def n (row ∷ rows) h =
    let parts = and_parts (tagged_fit def row.resources.items) _ h in
    let tagged = and_parts (levels_fit def false row.resources.items) _ parts.0 in
    let values = (and_parts (values_fit def row.resources.items) (list_all names_no_user row.resources.items) tagged.1).0 in
    let rest = forms_fit def (slot_forms row_source_form (placed_from (n + 1) (map (row_source def) rows))) in
    ap (λ b. (b && true) && rest) values ∙ tagged_forms_fit def (n + 1) rows parts.1

-- ---- what is held

pub placed_policies : (frame : Frame) (side : Side) (n : ℕ) (policies : List Policy) → policies_in (placed_from n (map (source frame side) policies)) ≡ policies
placed_policies frame side n [] = refl
placed_policies frame side n (p ∷ policies) = ap (λ ps. p ∷ ps) (placed_policies frame side (n + 1) policies)

pub placed_rows : (def : ServiceDef) (n : ℕ) (rows : List TagRow) → rows_in (placed_from n (map (row_source def) rows)) ≡ rows
placed_rows def n [] = refl
placed_rows def n (row ∷ rows) = ap (λ rs. row ∷ rs) (placed_rows def (n + 1) rows)

pub policy_forms_held : (slots : List (Placed Source)) → held_forms source_form slots ≡ policy_forms (policies_in slots)
policy_forms_held [] = refl
policy_forms_held (s ∷ slots) = ap (λ fs. source_form s.held ∷ fs) (policy_forms_held slots)

pub row_forms_held : (slots : List (Placed RowSource)) → held_forms row_source_form slots ≡ row_forms (rows_in slots)
row_forms_held [] = refl
row_forms_held (s ∷ slots) = ap (λ fs. row_source_form s.held ∷ fs) (row_forms_held slots)
