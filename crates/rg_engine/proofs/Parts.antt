-- What sound facts say of the parts of an engine.
use Rattle.std.proofs.Common.{◌≡◌, true, false, List, [], ◌∷◌, Option, None, refl, subst}
use Rattle.std.proofs.lemmas.Bool.{and_parts}
use Rattle.std.specs.List.{list_all}
use Rattle.std.specs.Ordering.{int_eq}
use Rattle.rg_base.specs.Texts.{all_distinct}
use Rattle.rg_policy.specs.declared.policy.Policy.{Policy}
use Rattle.rg_defs.specs.declared.service_def.ServiceDef.{ServiceDef}
use Rattle.rg_evalr.specs.declared.frame.Side.TheVariants.{Resource}
use Rattle.rg_facts.specs.Candidates.{frame_of}
use Rattle.rg_facts.specs.Sound.{all_policies, defs_sound, ids_sound, is_no_policy, passes, policies_sound, roles_sound, row_ids, row_sound, same_id, sound, tag_policies_pass, tag_rows_sound, versions_fit, zone_names_sound, zones_sound}
use Rattle.rg_facts.specs.declared.facts.Facts.{Facts}
use Rattle.rg_facts.proofs.Soundness.{ids_of, lawful, policies_of, rows_of, tag_policies_of, tag_side_lawful}
use Rattle.rg_engine.specs.Parts.{MayCompile, compiled_of}
use Rattle.rg_engine.proofs.Apart.{parts_apart}

-- no two rows have one id
rows_apart : (facts : Facts) → sound facts ≡ true → all_distinct int_eq (row_ids facts.tag_rows.items) ≡ true
unfolding sound tag_rows_sound
rows_apart facts h =
    let a = and_parts (versions_fit facts) _ h in
    let b = and_parts (defs_sound facts) _ a.1 in
    let c = and_parts (ids_sound (all_policies facts)) _ b.1 in
    let d = and_parts (roles_sound facts) _ c.1 in
    let e = and_parts (zone_names_sound facts) _ d.1 in
    let f = and_parts (zones_sound facts) _ e.1 in
    let g = and_parts (tag_rows_sound facts.def facts.tag_rows.items) _ f.1 in
    (and_parts (list_all (row_sound facts.def) facts.tag_rows.items) _ g.0).1

no_policy : (policies : List Policy) → is_no_policy policies ≡ true → policies ≡ []
no_policy [] h = refl
no_policy (p ∷ policies) h = let bad : false ≡ true = h in cc

-- without a tag definition there is no tag policy
no_tag_policy : (facts : Facts) → sound facts ≡ true → facts.tag_def ≡ None → facts.tag_policies.items ≡ []
unfolding sound policies_sound
no_tag_policy facts h none =
    let a = and_parts (versions_fit facts) _ h in
    let b = and_parts (defs_sound facts) _ a.1 in
    let c = and_parts (ids_sound (all_policies facts)) _ b.1 in
    let d = and_parts (roles_sound facts) _ c.1 in
    let e = and_parts (zone_names_sound facts) _ d.1 in
    let f = and_parts (zones_sound facts) _ e.1 in
    let g = and_parts (tag_rows_sound facts.def facts.tag_rows.items) _ f.1 in
    let i = and_parts (policies_sound facts) _ g.1 in
    let j = and_parts _ _ i.0 in
    let k = and_parts (list_all (passes (frame_of facts) Resource) facts.policies.items) _ j.1 in
    no_policy facts.tag_policies.items (subst (λ (o : Option ServiceDef). tag_policies_pass (frame_of facts) o facts.tag_policies.items ≡ true) none k.1)

-- what sound facts have may be compiled
pub may_compile : (facts : Facts) → sound facts ≡ true → MayCompile (compiled_of facts)
may_compile facts h =
    let both = parts_apart same_id facts.policies.items facts.tag_policies.items (ids_of facts h) in
    record {
      lawful = lawful facts h;
      tag_lawful = tag_side_lawful facts h;
      rules = policies_of facts h;
      tag_rules = tag_policies_of facts h;
      fit = rows_of facts h;
      apart = both.0;
      tag_apart = both.1;
      rows_apart = rows_apart facts h;
      none = no_tag_policy facts h;
    }
