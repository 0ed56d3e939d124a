-- What V5 says of a map of a policy, and which levels lie on one path.
use Rattle.std.proofs.Common.{◌≡◌, ◌&&◌, ◌||◌, ◌<◌, ◌+◌, ◌++◌, ◌∷◌, ◌∙◌, [], not, ℕ, Bool, true, List, Contains, length, map, take, get_or, nat_le, sym, ap}
use Rattle.std.proofs.lemmas.List.{map_more}
use Rattle.std.proofs.lemmas.Bool.{and_parts}
use Rattle.std.specs.List.{list_all}
use Rattle.std.specs.Str.{bytes_eq}
use Rattle.rg_base.proofs.Lists.{all_from, all_holds, any_from, any_holds}
use Rattle.rg_base.specs.Texts.{all_distinct, is_name}
use Rattle.rg_defs.specs.declared.service_def.Level.{Level}
use Rattle.rg_defs.specs.declared.service_def.ServiceDef.{ServiceDef}
use Rattle.rg_defs.specs.Paths.{level_of}
use Rattle.rg_defs.specs.PathTests.{lies_on, mandatory_named, on_one_path, paths_of}
use Rattle.rg_defs.specs.Rules.{has_level}
use Rattle.rg_policy.specs.declared.policy.Policy.{Policy}
use Rattle.rg_policy.specs.declared.policy.PolicyResource.{PolicyResource}
use Rattle.rg_policy.specs.declared.policy.ResourceMap.{ResourceMap}
use Rattle.rg_policy.specs.Maps.{maps_of}
use Rattle.rg_resmatch.specs.Rules.{all_levels_fit, are_listed, is_some_resource, levels_fit, is_some_text, named_levels, part_levels, policy_levels_fit, supports, are_written, values_fit, values_fit_level}

abbrev pub have_own_levels : List PolicyResource → Bool
have_own_levels resources = all_distinct (λ (r s : PolicyResource). bytes_eq s.level r.level) resources

pub record MapFits (def : ServiceDef) (resources : List PolicyResource) : Type 0 where
  pub distinct : have_own_levels resources ≡ true
  pub path : on_one_path def.levels.items (named_levels resources) ≡ true

map_fits : (def : ServiceDef) (resources : List PolicyResource) → levels_fit def true resources ≡ true → MapFits def resources
map_fits def resources h =
    let some = is_some_resource resources in
    let distinct = have_own_levels resources in
    let known = list_all (λ (r : PolicyResource). has_level def.levels.items r.level) resources in
    let path = on_one_path def.levels.items (named_levels resources) in
    let settled = not true || mandatory_named def.levels.items (named_levels resources) in
    let rest = and_parts some (distinct && (known && (path && settled))) h in
    let more = and_parts distinct (known && (path && settled)) rest.1 in
    let last = and_parts known (path && settled) more.1 in
    record { distinct = more.0; path = (and_parts path settled last.1).0 }

-- each map of a policy that passes V5
pub maps_fit : (def : ServiceDef) (q : Policy) → policy_levels_fit def q ≡ true → (m : ResourceMap) → Contains (maps_of q) m → MapFits def m.levels.items
maps_fit def q h m within =
    let few = nat_le (length q.additional.items) 15 in
    let fit = all_levels_fit def true (maps_of q) in
    let listed = list_all (λ (m : ResourceMap). are_listed (part_levels def q.policy_type) m.levels.items) (maps_of q) in
    let all = (and_parts fit listed (and_parts few (fit && listed) h).1).0 in
    map_fits def m.levels.items (all_holds (λ (m : ResourceMap). levels_fit def true m.levels.items) (maps_of q) all m within)

-- fewer levels lie on the path of more
pub fewer_on_path : (levels : List Level) (names others : List (List ℕ)) → ((name : List ℕ) → Contains others name → Contains names name)
    → on_one_path levels names ≡ true → on_one_path levels others ≡ true
fewer_on_path levels names others f h =
    let p = any_holds (λ path. list_all (lies_on levels path) names) (paths_of levels) h in
    any_from (λ path. list_all (lies_on levels path) others) (paths_of levels) p.0 p.1
    (all_from (lies_on levels p.0) others (λ name within. all_holds (lies_on levels p.0) names p.2 name (f name within)))

-- V6 of a map: its values are patterns
pub values_written : (def : ServiceDef) (resources : List PolicyResource) → values_fit def resources ≡ true → are_written resources ≡ true
values_written def resources h = all_from (λ (r : PolicyResource). list_all is_name r.values.items) resources (λ r within.
    let some = is_some_text r.values.items in
    let each = list_all is_name r.values.items in
    let held = supports (level_of def r.level) r in
    (and_parts each held (and_parts some (each && held) (all_holds (values_fit_level def) resources h r within)).1).0)

-- one more element of what was made of a list
pub map_next : {X Y : Type 0} (f : X → Y) (xs : List X) (n : ℕ) (x : X) → n < length xs → x ≡ get_or xs n x → map f (take (n + 1) xs) ≡ map f (take n xs) ++ f x ∷ []
map_next f xs n x there is = map_more f xs n x there ∙ ap (λ y. map f (take n xs) ++ f y ∷ []) (sym is)
