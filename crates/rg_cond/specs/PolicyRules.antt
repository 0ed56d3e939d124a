-- The rules of a policy's conditions and schedules.
use Rattle.std.specs.Prelude.{◌&&◌, not, Bool, List, is_none}
use Rattle.std.specs.List.{list_all}
use Rattle.rg_policy.specs.declared.policy.Item.{Item}
use Rattle.rg_policy.specs.declared.policy.Policy.{Policy}
use Rattle.rg_policy.specs.declared.policy.PolicyCondition.{PolicyCondition}
use Rattle.rg_policy.specs.declared.policy.ScheduleText.{ScheduleText}
use Rattle.rg_policy.specs.declared.policy.TimeZoneRow.{TimeZoneRow}
use Rattle.rg_policy.specs.Kinds.{every_item}
use Rattle.rg_defs.specs.declared.service_def.ServiceDef.{ServiceDef}
use Rattle.rg_cond.specs.Kinds.{condition_fault}
use Rattle.rg_cond.specs.Spans.{schedule_fault}

-- each of these conditions compiles
abbrev pub all_compile : ServiceDef → List PolicyCondition → Bool
all_compile def conditions = list_all (λ (c : PolicyCondition). is_none (condition_fault def c)) conditions

-- V9: each condition of the policy and of its items compiles
abbrev pub conditions_compile : ServiceDef → Policy → Bool
conditions_compile def p = all_compile def p.conditions.items && every_item (λ (i : Item). all_compile def i.conditions.items) p

-- the schedule reads, and isn't recurring
abbrev pub schedule_reads : List TimeZoneRow → ScheduleText → Bool
schedule_reads rows s = not s.recurring && is_none (schedule_fault rows s)

-- V12: each schedule reads, and none is recurring
abbrev pub schedules_read : List TimeZoneRow → Policy → Bool
schedules_read rows p = list_all (schedule_reads rows) p.schedules.items
