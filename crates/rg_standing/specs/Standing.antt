-- Whether a policy is in play, and the first thing that keeps it out.
use Rattle.std.specs.Prelude.{Bool, false, true, not, List, Option, Some, None, map, if◌then◌else◌}
use Rattle.std.specs.List.{find}
use Rattle.rg_base.specs.Listed.{listed}
use Rattle.rg_policy.specs.Maps.{maps_of}
use Rattle.rg_policy.specs.declared.policy.Policy.{Policy}
use Rattle.rg_policy.specs.declared.policy.PolicyCondition.{PolicyCondition}
use Rattle.rg_policy.specs.declared.request.Element.{Element}
use Rattle.rg_defs.specs.declared.service_def.ServiceDef.{ServiceDef}
use Rattle.rg_cond.specs.Conditions.{condition_holds}
use Rattle.rg_resmatch.specs.Tests.{some_lies}
use Rattle.rg_resmatch.specs.declared.reach.Reach.TheVariants.{Exact}
use Rattle.rg_evalr.specs.Effects.{is_scheduled, is_valid}
use Rattle.rg_evalr.specs.Frames.{def_of}
use Rattle.rg_evalr.specs.declared.frame.Effect.{Effect}
use Rattle.rg_evalr.specs.declared.frame.Effect.TheVariants.{Nothing}
use Rattle.rg_standing.specs.Asking.{Asked, elements_for}
use Rattle.rg_standing.specs.Hits.{is_near, miss_of}
use Rattle.rg_standing.specs.Matching.{effect_by, matches_of}
use Rattle.rg_standing.specs.declared.reason.Standing.{Standing}
use Rattle.rg_standing.specs.declared.reason.Standing.TheVariants.{FarOff, Disabled, Unscheduled, Elsewhere, Unmet, InPlay}

abbrev pub def_asked : Asked → ServiceDef
def_asked a = def_of a.frame a.side

abbrev pub elements_asked : Asked → List Element
elements_asked a = elements_for a.side a.context.request a.context.tag

-- a level of the policy is hit by what is asked about
abbrev pub policy_near : Asked → Policy → Bool
policy_near a p = is_near (def_asked a) a.context.request.user (elements_asked a) (maps_of p)

-- one of its maps lies on what is asked about
abbrev pub policy_lies : Asked → Policy → Bool
policy_lies a p = some_lies (def_asked a) (maps_of p) Exact (elements_asked a) a.context.request.user

-- the first condition that doesn't hold
abbrev pub first_failing : Asked → List PolicyCondition → Option PolicyCondition
first_failing a conditions = find (λ (w : PolicyCondition). not (condition_holds (def_asked a) w a.context.request a.context.tag)) conditions

abbrev pub by_conditions : Asked → Policy → Option PolicyCondition → Standing
by_conditions a p (Some w) = Unmet w.name
by_conditions a p None = InPlay (matches_of a p)

-- how a policy stands to what is asked
unfoldable pub standing_of : Asked → Policy → Standing
standing_of a p =
    if not (policy_near a p) then FarOff
    else (if not p.enabled then Disabled
    else (if not (is_scheduled (is_valid a.frame a.context) p.schedules.items) then Unscheduled
    else (if not (policy_lies a p) then Elsewhere (listed (map (miss_of (def_asked a) a.context.request.user (elements_asked a)) (maps_of p)))
    else by_conditions a p (first_failing a p.conditions.items))))

abbrev pub is_told_in_play : Standing → Bool
is_told_in_play (InPlay matches) = true
is_told_in_play FarOff = false
is_told_in_play Disabled = false
is_told_in_play Unscheduled = false
is_told_in_play (Elsewhere misses) = false
is_told_in_play (Unmet condition) = false

-- the effect of a policy that stands so: nothing where it isn't in play
abbrev pub effect_told : Standing → Bool → Effect
effect_told (InPlay matches) deny_all_else = effect_by matches deny_all_else
effect_told FarOff deny_all_else = Nothing
effect_told Disabled deny_all_else = Nothing
effect_told Unscheduled deny_all_else = Nothing
effect_told (Elsewhere misses) deny_all_else = Nothing
effect_told (Unmet condition) deny_all_else = Nothing
