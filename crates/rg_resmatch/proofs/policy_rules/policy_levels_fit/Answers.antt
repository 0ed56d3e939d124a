use Rattle.std.proofs.Common.{◌≡◌, true, ℕ, List, length, nat_le, sym, ap, ◌∙◌, arith}
use Rattle.std.proofs.lemmas.Bool.Decides.{nat_tests}
use Rattle.std.specs.List.{list_all}
use Rattle.rg_defs.specs.declared.service_def.ServiceDef.{ServiceDef}
use Rattle.rg_policy.specs.declared.policy.ResourceMap.{ResourceMap}
use Rattle.rg_policy.specs.Maps.{maps_of}
use Rattle.rg_resmatch.specs.Rules.{all_levels_fit, are_listed, part_levels}
use Rattle.rg_resmatch.proofs.Weakening.{third_decides}
use Rattle.rg_resmatch.proofs.policy_rules.policy_levels_fit.Goals as goal

pub returns-then-levels_of_maps_fit : goal.returns-then-levels_of_maps_fit
returns-then-levels_of_maps_fit c =
    let def = c.args.def.now in
    let policy = c.args.policy.now in
    let all_listed = λ (levels : List (List ℕ)). list_all (λ (m : ResourceMap). are_listed levels m.levels.items) (maps_of policy) in
    let few : nat_le (length policy.additional.items) 15 ≡ true = ap (λ n. nat_le n 15) (sym c.len.ensures) ∙ grind (arith, nat_tests, c.if-len-le15.true) in
    let fit : all_levels_fit def true (maps_of policy) ≡ true = sym c.levels_of_maps_fit.ensures ∙ c.if-levels_of_maps_fit.true in
    third_decides (nat_le (length policy.additional.items) 15) (all_levels_fit def true (maps_of policy)) (all_listed (part_levels def policy.policy_type)) c.maps_are_listed.result
    few fit (c.maps_are_listed.ensures ∙ ap all_listed (c.part_levels.ensures ∙ ap (λ (d : ServiceDef). part_levels d policy.policy_type) c.def.view_is))
