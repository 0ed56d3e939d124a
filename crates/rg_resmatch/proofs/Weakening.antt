-- What V5 says of a policy's maps, without their mandatory levels.
use Rattle.std.proofs.Common.{◌≡◌, ◌&&◌, ◌||◌, not, Bool, true, false, List, [], ◌∷◌, length, nat_le, refl, sym, ap, ◌∙◌}
use Rattle.std.proofs.lemmas.Bool.{and_from, and_parts}
use Rattle.std.specs.List.{list_all}
use Rattle.std.specs.Str.{bytes_eq}
use Rattle.rg_base.specs.Texts.{all_distinct}
use Rattle.rg_defs.specs.declared.service_def.ServiceDef.{ServiceDef}
use Rattle.rg_defs.specs.PathTests.{mandatory_named, on_one_path}
use Rattle.rg_defs.specs.Rules.{has_level}
use Rattle.rg_policy.specs.declared.policy.Policy.{Policy}
use Rattle.rg_policy.specs.declared.policy.PolicyResource.{PolicyResource}
use Rattle.rg_policy.specs.declared.policy.ResourceMap.{ResourceMap}
use Rattle.rg_policy.specs.Maps.{maps_of}
use Rattle.rg_resmatch.specs.Rules.{all_levels_fit, are_listed, is_some_resource, levels_fit, named_levels, part_levels, policy_levels_fit}

last_left_out : (a b c d e : Bool) → (a && (b && (c && (d && e)))) ≡ true → (a && (b && (c && (d && true)))) ≡ true
last_left_out true true true true e h = refl
last_left_out true true true false e h = h
last_left_out true true false d e h = h
last_left_out true false c d e h = h
last_left_out false b c d e h = h

one_map : (def : ServiceDef) (resources : List PolicyResource) → levels_fit def true resources ≡ true → levels_fit def false resources ≡ true
one_map def resources h =
    last_left_out (is_some_resource resources) (all_distinct (λ (r s : PolicyResource). bytes_eq s.level r.level) resources)
    (list_all (λ (r : PolicyResource). has_level def.levels.items r.level) resources) (on_one_path def.levels.items (named_levels resources))
    (not true || mandatory_named def.levels.items (named_levels resources)) h

all_maps : (def : ServiceDef) (maps : List ResourceMap) → all_levels_fit def true maps ≡ true → all_levels_fit def false maps ≡ true
all_maps def [] h = refl
all_maps def (m ∷ maps) h =
    let parts = and_parts (levels_fit def true m.levels.items) (all_levels_fit def true maps) h in
    and_from _ _ (one_map def m.levels.items parts.0) (all_maps def maps parts.1)

pub without_mandatory : (def : ServiceDef) (policy : Policy) → policy_levels_fit def policy ≡ true → all_levels_fit def false (maps_of policy) ≡ true
without_mandatory def policy h =
    let few = nat_le (length policy.additional.items) 15 in
    let fit = all_levels_fit def true (maps_of policy) in
    let listed = list_all (λ (m : ResourceMap). are_listed (part_levels def policy.policy_type) m.levels.items) (maps_of policy) in
    all_maps def (maps_of policy) (and_parts fit listed (and_parts few (fit && listed) h).1).0

-- where the first two hold, the third decides
pub third_decides : (few fit listed result : Bool) → few ≡ true → fit ≡ true → result ≡ listed → result ≡ (few && (fit && listed))
third_decides few fit listed result e f g = g ∙ sym (ap (λ b. b && (fit && listed)) e ∙ ap (λ b. b && listed) f)
