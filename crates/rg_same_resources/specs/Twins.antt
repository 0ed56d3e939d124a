-- Policies that are for the same resources at the same time.
use Rattle.std.specs.Prelude.{ℕ, ◌&&◌, not, Bool, true, false, List, [], ◌∷◌, if◌then◌else◌}
use Rattle.std.specs.List.{list_all, list_any}
use Rattle.std.specs.Ordering.{int_eq}
use Rattle.std.specs.Str.{bytes_eq}
use Rattle.rg_base.specs.Texts.{is_among}
use Rattle.rg_policy.specs.Maps.{maps_of}
use Rattle.rg_policy.specs.declared.policy.Policy.{Policy}
use Rattle.rg_policy.specs.declared.policy.PolicyResource.{PolicyResource}
use Rattle.rg_policy.specs.declared.policy.ResourceMap.{ResourceMap}
use Rattle.rg_policy.specs.declared.policy.ScheduleText.{ScheduleText}

-- the policies are of one service and one zone, or of none
abbrev pub same_place : Policy → Policy → Bool
same_place p q = bytes_eq q.service p.service && bytes_eq q.zone p.zone

abbrev pub same_flag : Bool → Bool → Bool
same_flag a b = if a then b else not b

abbrev pub each_among : List (List ℕ) → List (List ℕ) → Bool
each_among texts others = list_all (λ t. is_among t others) texts

-- the lists have the same texts, whatever their order and repeats
abbrev pub same_texts : List (List ℕ) → List (List ℕ) → Bool
same_texts texts others = each_among texts others && each_among others texts

-- the same level with the same flags and the same values
abbrev pub same_resource : PolicyResource → PolicyResource → Bool
same_resource r q = bytes_eq q.level r.level
    && (same_flag r.excludes q.excludes
    && (same_flag r.recursive q.recursive
    && same_texts r.values.items q.values.items))

abbrev pub each_resource_in : List PolicyResource → List PolicyResource → Bool
each_resource_in resources others = list_all (λ r. list_any (same_resource r) others) resources

-- the same levels with the same flags and values
abbrev pub same_levels : List PolicyResource → List PolicyResource → Bool
same_levels resources others = each_resource_in resources others && each_resource_in others resources

-- one of the maps has the same levels, flags and values
abbrev pub has_map : List ResourceMap → List PolicyResource → Bool
has_map maps resources = list_any (λ (m : ResourceMap). same_levels resources m.levels.items) maps

abbrev pub each_map_in : List ResourceMap → List ResourceMap → Bool
each_map_in maps others = list_all (λ (m : ResourceMap). has_map others m.levels.items) maps

-- each map of the one is the same as some map of the other, both ways
abbrev pub same_maps : List ResourceMap → List ResourceMap → Bool
same_maps maps others = each_map_in maps others && each_map_in others maps

-- the schedules as they are written
abbrev pub same_schedule : ScheduleText → ScheduleText → Bool
same_schedule a b = bytes_eq a.start_time b.start_time
    && (bytes_eq a.end_time b.end_time
    && (bytes_eq a.time_zone b.time_zone
    && same_flag a.recurring b.recurring))

abbrev pub same_schedules : List ScheduleText → List ScheduleText → Bool
same_schedules [] [] = true
same_schedules [] (b ∷ others) = false
same_schedules (a ∷ schedules) [] = false
same_schedules (a ∷ schedules) (b ∷ others) = same_schedule a b && same_schedules schedules others

-- the policies have one service, zone, type, priority and list of schedules
abbrev pub same_kind : Policy → Policy → Bool
same_kind p q = same_place p q
    && (int_eq q.policy_type p.policy_type
    && (int_eq q.priority p.priority
    && same_schedules p.schedules.items q.schedules.items))

-- the other policy is enabled, of the same kind, and has the same maps
abbrev pub is_twin : Policy → Policy → Bool
is_twin p q = q.enabled && (same_kind p q && same_maps (maps_of p) (maps_of q))
