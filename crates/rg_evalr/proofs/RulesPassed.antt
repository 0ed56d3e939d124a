-- Where no rule fails, each of them holds.
use Rattle.std.proofs.Common.{◌≡◌, ◌&&◌, ℕ, Bool, true, false, not, cond, List, [], ◌∷◌, map, Option, Some, None, refl}
use Rattle.std.proofs.lemmas.Bool.{and_parts}
use Rattle.std.specs.List.{find, list_all}
use Rattle.std.specs.Prelude.{option_map}
use Rattle.rg_policy.specs.declared.policy.Item.{Item}
use Rattle.rg_policy.specs.declared.policy.Policy.{Policy}
use Rattle.rg_cond.specs.PolicyRules.{all_compile, conditions_compile, schedules_read}
use Rattle.rg_resmatch.specs.Rules.{policy_levels_fit, policy_values_fit}
use Rattle.rg_items.specs.PolicyRules.{entries_fit, lists_fit, outcomes_fit, priority_fits, type_fits}
use Rattle.rg_evalr.specs.Compiling.{policy_fault, policy_rules}
use Rattle.rg_evalr.specs.Frames.{def_of}
use Rattle.rg_evalr.specs.declared.frame.Frame.{Frame}
use Rattle.rg_evalr.specs.declared.frame.Side.{Side}

abbrev Rules : Type 0
Rules = List (ℕ × Bool)

abbrev first_failing : Rules → Option ℕ
first_failing rules = option_map (λ (r : ℕ × Bool). r.0) (find (λ (r : ℕ × Bool). not r.1) rules)

abbrev holds : ℕ × Bool → Bool
holds r = r.1

-- where none fails they all hold
all_hold : (rules : Rules) → first_failing rules ≡ None → list_all holds rules ≡ true
all_hold [] h = refl
all_hold (r ∷ rules) h =
    elim r.1 as (λ v. option_map (λ (x : ℕ × Bool). x.0) (cond (not v) (Some r) (find (λ (x : ℕ × Bool). not x.1) rules)) ≡ None → (v && list_all holds rules) ≡ true) [
      | true ↦ λ rest. all_hold rules rest
      | false ↦ λ bad. let wrong : Some r.0 ≡ None = bad in cc
    ] h

-- the rules that compiling rests on
pub record Passed (frame : Frame) (side : Side) (p : Policy) : Type 0 where
  pub levels : policy_levels_fit (def_of frame side) p ≡ true
  pub values : policy_values_fit (def_of frame side) p ≡ true
  pub conditions : conditions_compile (def_of frame side) p ≡ true
  pub schedules : schedules_read frame.time_zones p ≡ true

pub passed_rules : (frame : Frame) (side : Side) (p : Policy) → policy_fault frame side p ≡ None → Passed frame side p
unfolding policy_fault
passed_rules frame side p h =
    let all : (type_fits (def_of frame side) p && (priority_fits p && (policy_levels_fit (def_of frame side) p && (policy_values_fit (def_of frame side) p && (lists_fit p
    && (entries_fit (def_of frame side) p && (conditions_compile (def_of frame side) p && (outcomes_fit (def_of frame side) p && (schedules_read frame.time_zones p && true))))))))) ≡ true
    = all_hold (policy_rules frame side p) h in
    let a = and_parts (type_fits (def_of frame side) p) _ all in
    let b = and_parts (priority_fits p) _ a.1 in
    let c = and_parts (policy_levels_fit (def_of frame side) p) _ b.1 in
    let d = and_parts (policy_values_fit (def_of frame side) p) _ c.1 in
    let e = and_parts (lists_fit p) _ d.1 in
    let f = and_parts (entries_fit (def_of frame side) p) _ e.1 in
    let g = and_parts (conditions_compile (def_of frame side) p) _ f.1 in
    let i = and_parts (outcomes_fit (def_of frame side) p) _ g.1 in
    let j = and_parts (schedules_read frame.time_zones p) _ i.1 in
    record { levels = c.0; values = d.0; conditions = g.0; schedules = j.0 }

-- the conditions of the items of each list compile
pub record ItemsCompile (frame : Frame) (side : Side) (p : Policy) : Type 0 where
  pub conditions : all_compile (def_of frame side) p.conditions.items ≡ true
  pub items : list_all (λ (i : Item). all_compile (def_of frame side) i.conditions.items) p.items.items ≡ true
  pub deny_items : list_all (λ (i : Item). all_compile (def_of frame side) i.conditions.items) p.deny_items.items ≡ true
  pub allow_exceptions : list_all (λ (i : Item). all_compile (def_of frame side) i.conditions.items) p.allow_exceptions.items ≡ true
  pub deny_exceptions : list_all (λ (i : Item). all_compile (def_of frame side) i.conditions.items) p.deny_exceptions.items ≡ true
  pub mask_items : list_all (λ (i : Item). all_compile (def_of frame side) i.conditions.items) p.mask_items.items ≡ true
  pub filter_items : list_all (λ (i : Item). all_compile (def_of frame side) i.conditions.items) p.filter_items.items ≡ true

pub items_compile : (frame : Frame) (side : Side) (p : Policy) → conditions_compile (def_of frame side) p ≡ true → ItemsCompile frame side p
items_compile frame side p h =
    let test : Item → Bool = λ i. all_compile (def_of frame side) i.conditions.items in
    let a = and_parts (all_compile (def_of frame side) p.conditions.items) _ h in
    let b = and_parts (list_all test p.items.items) _ a.1 in
    let c = and_parts (list_all test p.deny_items.items) _ b.1 in
    let d = and_parts (list_all test p.allow_exceptions.items) _ c.1 in
    let e = and_parts (list_all test p.deny_exceptions.items) _ d.1 in
    let f = and_parts (list_all test p.mask_items.items) _ e.1 in
    let g = and_parts (list_all test p.filter_items.items) _ f.1 in
    record { conditions = a.0; items = b.0; deny_items = c.0; allow_exceptions = d.0; deny_exceptions = e.0; mask_items = f.0; filter_items = g.0 }
