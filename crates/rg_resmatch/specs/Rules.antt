-- The rules of resources that are matched.
use Rattle.std.specs.Prelude.{ℕ, ℤ, pos, ◌&&◌, ◌||◌, not, nat_le, Bool, true, false, List, [], ◌∷◌, length, map, Option, Some, None, if◌then◌else◌}
use Rattle.std.specs.List.{list_all}
use Rattle.std.specs.Ordering.{int_eq}
use Rattle.std.specs.Str.{bytes_eq}
use Rattle.rg_base.specs.Texts.{all_distinct, is_among, is_name}
use Rattle.rg_defs.specs.declared.service_def.Level.{Level}
use Rattle.rg_defs.specs.declared.service_def.ServiceDef.{ServiceDef}
use Rattle.rg_defs.specs.Paths.{level_of}
use Rattle.rg_defs.specs.PathTests.{mandatory_named, on_one_path}
use Rattle.rg_defs.specs.Rules.{has_level}
use Rattle.rg_pattern.specs.Reading.{value_fits}
use Rattle.rg_policy.specs.Maps.{maps_of}
use Rattle.rg_policy.specs.declared.policy.Policy.{Policy}
use Rattle.rg_policy.specs.declared.policy.PolicyResource.{PolicyResource}
use Rattle.rg_policy.specs.declared.policy.ResourceMap.{ResourceMap}

abbrev pub named_levels : List PolicyResource → List (List ℕ)
named_levels resources = map (λ (r : PolicyResource). r.level) resources

abbrev pub is_some_resource : List PolicyResource → Bool
is_some_resource [] = false
is_some_resource (r ∷ rs) = true

-- V5 of one map: there is a level, the levels are distinct, are levels of the definition and lie on one path, and, where it is asked, every mandatory level above a named one is named
abbrev pub levels_fit : ServiceDef → Bool → List PolicyResource → Bool
levels_fit def mandatory resources = is_some_resource resources
    && (all_distinct (λ (r s : PolicyResource). bytes_eq s.level r.level) resources
    && (list_all (λ (r : PolicyResource). has_level def.levels.items r.level) resources
    && (on_one_path def.levels.items (named_levels resources)
    && (not mandatory || mandatory_named def.levels.items (named_levels resources)))))

-- the same of each map
abbrev pub all_levels_fit : ServiceDef → Bool → List ResourceMap → Bool
all_levels_fit def mandatory maps = list_all (λ (m : ResourceMap). levels_fit def mandatory m.levels.items) maps

-- an unknown level supports neither
abbrev pub supports : Option Level → PolicyResource → Bool
supports None r = not r.excludes && not r.recursive
supports (Some l) r = (not r.excludes || l.excludes) && (not r.recursive || l.recursive)

abbrev pub is_some_text : List (List ℕ) → Bool
is_some_text [] = false
is_some_text (t ∷ ts) = true

-- there is a value, each value is a pattern, which has 1 to 256 characters, and the resource excludes and is recursive only where its level supports it
abbrev pub values_fit_level : ServiceDef → PolicyResource → Bool
values_fit_level def r = is_some_text r.values.items && (list_all is_name r.values.items && supports (level_of def r.level) r)

-- V6 of one map
abbrev pub values_fit : ServiceDef → List PolicyResource → Bool
values_fit def resources = list_all (values_fit_level def) resources

-- V6 of each map
abbrev pub all_values_fit : ServiceDef → List ResourceMap → Bool
all_values_fit def maps = list_all (λ (m : ResourceMap). values_fit def m.levels.items) maps

-- each value is a pattern
abbrev pub are_written : List PolicyResource → Bool
are_written resources = list_all (λ (r : PolicyResource). list_all is_name r.values.items) resources

-- the levels that the definition lists for policies of this type: 1 masks, 2 filters rows
abbrev pub part_levels : ServiceDef → ℤ → List (List ℕ)
part_levels def kind = if int_eq kind (pos 1) then def.mask_levels.items else (if int_eq kind (pos 2) then def.filter_levels.items else [])

-- each level is one of these, where there are any
abbrev pub are_listed : List (List ℕ) → List PolicyResource → Bool
are_listed [] resources = true
are_listed (l ∷ levels) resources = list_all (λ (r : PolicyResource). is_among r.level (l ∷ levels)) resources

-- V5: a policy has at most 15 additional maps, the levels of each of its maps fit, and where it masks or filters rows, each is listed in that part of the definition, where the part lists any
abbrev pub policy_levels_fit : ServiceDef → Policy → Bool
policy_levels_fit def p = nat_le (length p.additional.items) 15
    && (all_levels_fit def true (maps_of p)
    && list_all (λ (m : ResourceMap). are_listed (part_levels def p.policy_type) m.levels.items) (maps_of p))

-- V6
abbrev pub policy_values_fit : ServiceDef → Policy → Bool
policy_values_fit def p = all_values_fit def (maps_of p)

-- each value of the resource is a pattern without `{USER}`
abbrev pub names_no_user : PolicyResource → Bool
names_no_user r = list_all value_fits r.values.items

-- G2: the resources meet V5 without mandatory levels and V6, and no value has `{USER}`
abbrev pub tagged_fit : ServiceDef → List PolicyResource → Bool
tagged_fit def resources = levels_fit def false resources && (values_fit def resources && list_all names_no_user resources)
