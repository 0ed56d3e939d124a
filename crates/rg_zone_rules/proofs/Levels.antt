-- The levels of a zone's resource map, as they are asked of the map itself.
use Rattle.std.proofs.Common.{◌≡◌, ◌&&◌, Bool, true, false, ℕ, List, [], ◌∷◌, map, refl, sym, ap, ◌∙◌}
use Rattle.std.proofs.lemmas.List.Folds.{list_all-map}
use Rattle.std.proofs.lemmas.Simd.{map-map}
use Rattle.std.specs.List.{list_all}
use Rattle.std.specs.Str.{bytes_eq}
use Rattle.rg_base.specs.Texts.{all_distinct}
use Rattle.rg_base.proofs.Lists.{all_distinct-map}
use Rattle.rg_defs.specs.declared.service_def.ServiceDef.{ServiceDef}
use Rattle.rg_defs.specs.PathTests.{on_one_path}
use Rattle.rg_defs.specs.Rules.{has_level}
use Rattle.rg_policy.specs.declared.policy.PolicyResource.{PolicyResource}
use Rattle.rg_resmatch.specs.Rules.{levels_fit}
use Rattle.rg_zone_rules.specs.declared.row.ZoneLevel.{ZoneLevel}
use Rattle.rg_zone_rules.specs.Rules.{is_some_level}
use Rattle.rg_zone_rules.specs.Zones.{zone_resource, zone_resources}

shuffle : (d a p : Bool) → (a && d && p) ≡ (true && (d && (a && (p && true))))
shuffle true true true = refl
shuffle true true false = refl
shuffle true false p = refl
shuffle false true p = refl
shuffle false false p = refl

pub levels_alike : (def : ServiceDef) (ls : List ZoneLevel)
    → levels_fit def false (zone_resources def ls)
    ≡ (is_some_level ls && (list_all (λ (l : ZoneLevel). has_level def.levels.items l.level) ls && all_distinct (λ (l m : ZoneLevel). bytes_eq m.level l.level) ls && on_one_path def.levels.items (map (λ (l : ZoneLevel). l.level) ls)))
levels_alike def [] = refl
levels_alike def (l ∷ ls) =
    let all = l ∷ ls in
    let known : PolicyResource → Bool = λ r. has_level def.levels.items r.level in
    let alike : PolicyResource → PolicyResource → Bool = λ r s. bytes_eq s.level r.level in
    let a = list_all (λ (l : ZoneLevel). has_level def.levels.items l.level) all in
    let d = all_distinct (λ (l m : ZoneLevel). bytes_eq m.level l.level) all in
    let names : List (List ℕ) = map (λ (l : ZoneLevel). l.level) all in
    sym (shuffle d a (on_one_path def.levels.items names)
    ∙ ap (λ (b : Bool). true && (b && (a && (on_one_path def.levels.items names && true)))) (sym (all_distinct-map alike (zone_resource def) all))
    ∙ ap (λ (b : Bool). true && (all_distinct alike (zone_resources def all) && (b && (on_one_path def.levels.items names && true)))) (sym (list_all-map known (zone_resource def) all))
    ∙ ap (λ (ns : List (List ℕ)). true && (all_distinct alike (zone_resources def all) && (list_all known (zone_resources def all) && (on_one_path def.levels.items ns && true))))
    (sym (map-map (λ (r : PolicyResource). r.level) (zone_resource def) all)))
