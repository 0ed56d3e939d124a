-- The rules that a policy passes before it is compiled, and the first that fails.
use Rattle.std.specs.Prelude.{ℕ, not, Bool, List, [], ◌∷◌, Option, option_map}
use Rattle.std.specs.List.{find}
use Rattle.rg_policy.specs.declared.policy.Policy.{Policy}
use Rattle.rg_cond.specs.PolicyRules.{conditions_compile, schedules_read}
use Rattle.rg_resmatch.specs.Rules.{policy_levels_fit, policy_values_fit}
use Rattle.rg_items.specs.PolicyRules.{entries_fit, lists_fit, outcomes_fit, priority_fits, type_fits}
use Rattle.rg_evalr.specs.declared.frame.Frame.{Frame}
use Rattle.rg_evalr.specs.declared.frame.Side.{Side}
use Rattle.rg_evalr.specs.Frames.{def_of}

-- V3 to V9, V11 and V12 in order, each with its number; V10 reads the roles, which an evaluator doesn't know
abbrev pub policy_rules : Frame → Side → Policy → List (ℕ × Bool)
policy_rules frame side p =
    (3, type_fits (def_of frame side) p)
    ∷ (4, priority_fits p)
    ∷ (5, policy_levels_fit (def_of frame side) p)
    ∷ (6, policy_values_fit (def_of frame side) p)
    ∷ (7, lists_fit p)
    ∷ (8, entries_fit (def_of frame side) p)
    ∷ (9, conditions_compile (def_of frame side) p)
    ∷ (11, outcomes_fit (def_of frame side) p)
    ∷ (12, schedules_read frame.time_zones p) ∷ []

-- the first of them that fails
unfoldable pub policy_fault : Frame → Side → Policy → Option ℕ
policy_fault frame side p = option_map (λ (r : ℕ × Bool). r.0) (find (λ (r : ℕ × Bool). not r.1) (policy_rules frame side p))
