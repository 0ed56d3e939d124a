-- Maps that are the same as one map.
use Rattle.std.proofs.Common.{◌≡◌, ◌&&◌, ◌||◌, ◌==◌, length, Bool, true, false, List, [], ◌∷◌, arith, refl, ap, ◌∙◌}
use Rattle.std.proofs.lemmas.Bool.Decides.{nat_tests}
use Rattle.std.specs.List.{list_all}
use Rattle.std.specs.Ordering.{int_eq}
use Rattle.std.specs.Str.{bytes_eq}
use Rattle.rg_policy.specs.Kinds.{access_policy, normal}
use Rattle.rg_policy.specs.Maps.{maps_of}
use Rattle.rg_policy.specs.declared.policy.Policy.{Policy}
use Rattle.rg_policy.specs.declared.policy.PolicyResource.{PolicyResource}
use Rattle.rg_policy.specs.declared.policy.ResourceMap.{ResourceMap}
use Rattle.rg_policy.specs.declared.policy.ScheduleText.{ScheduleText}
use Rattle.rg_cmd.specs.declared.state.State.{State}
use Rattle.rg_same_resources.specs.Twins.{each_map_in, each_resource_in, has_map, is_twin, same_levels, same_maps, same_schedules}
use Rattle.rg_grant.specs.Forms.{new_policy}
use Rattle.rg_grant.specs.Planning.{is_for, map_of}
use Rattle.rg_grant.specs.declared.row.GrantRow.{GrantRow}

or_none : (b : Bool) → (b || false) ≡ b
or_none true = refl
or_none false = refl

and_turned : (a b : Bool) → (a && b) ≡ (b && a)
and_turned true true = refl
and_turned true false = refl
and_turned false true = refl
and_turned false false = refl

pub levels_turned : (r q : List PolicyResource) → same_levels r q ≡ same_levels q r
levels_turned r q = and_turned (each_resource_in r q) (each_resource_in q r)

abbrev pub all_same : GrantRow → List ResourceMap → Bool
all_same g maps = list_all (λ (m : ResourceMap). same_levels g.resources.items m.levels.items) maps

-- each of the maps is the same as the row's one map
each_in_one : (g : GrantRow) (maps : List ResourceMap) → each_map_in maps (map_of g) ≡ all_same g maps
each_in_one g [] = refl
each_in_one g (m ∷ maps) =
    (λ i. (or_none (same_levels m.levels.items g.resources.items) ∙ levels_turned m.levels.items g.resources.items) i && each_in_one g maps i)

-- where the first of the maps is the same as the row's, the row's is the same as one of the maps
one_in_each : (first rest : Bool) (all : Bool) → (((first || rest) && true) && (first && all)) ≡ (first && all)
one_in_each true rest all = refl
one_in_each false true all = refl
one_in_each false false all = refl

-- the maps of a policy are the same as the row's one map where each of them is
pub maps_same : (g : GrantRow) (p : Policy) → same_maps (map_of g) (maps_of p) ≡ (same_levels g.resources.items p.resources.items && all_same g p.additional.items)
maps_same g p =
    ap (λ b. each_map_in (map_of g) (maps_of p) && b) (each_in_one g (maps_of p))
    ∙ one_in_each (same_levels g.resources.items p.resources.items) (has_map p.additional.items g.resources.items) (all_same g p.additional.items)

pub ruleset one_map = (maps_same)

-- ---- twins

no_schedules : (schedules : List ScheduleText) → (length schedules == 0) ≡ same_schedules [] schedules
no_schedules [] = refl
no_schedules (s ∷ schedules) = let some : (length (s ∷ schedules) == 0) ≡ false = grind (arith, nat_tests) in some

-- what the row is for is a twin of what a grant would create
pub twins_of : (s : State) (g : GrantRow) (p : Policy) → is_for g p ≡ is_twin (new_policy s.next_id g) p
unfolding new_policy
twins_of s g p = λ i.
    p.enabled
    && (((bytes_eq p.service g.service && bytes_eq p.zone g.zone)
    && (int_eq p.policy_type access_policy && (int_eq p.priority normal && no_schedules p.schedules.items i)))
    && same_maps (map_of g) (maps_of p))
