use Rattle.std.proofs.Common.{◌≡◌, map, sym, ap, ◌∙◌}
use Rattle.std.proofs.lemmas.Option.{same_Some}
use Rattle.rg_defs.specs.declared.service_def.ServiceDef.{ServiceDef}
use Rattle.rg_cmd.specs.declared.state.ServiceRow.{ServiceRow}
use Rattle.rg_validate.proofs.def_index.DefIndex.of.Goals as goal

pub invariant_of-result-2 : goal.invariant_of-result-2
invariant_of-result-2 c =
    let services : c.in_ok-services.services ≡ map (λ (row : ServiceRow). row.name) c.args.state.now.services.items =
    c.in_ok-services.ensures ∙ ap (map (λ (row : ServiceRow). row.name)) c.as_slice.ensures in
    let defs : c.in_ok-defs.defs ≡ map (λ (def : ServiceDef). def.name) c.args.state.now.defs.items =
    c.in_ok-defs.ensures ∙ ap (map (λ (def : ServiceDef). def.name)) c.as_slice-2.ensures in
    (λ x is. sym (same_Some c.in_ok-services.services x is) ∙ services, λ x is. sym (same_Some c.in_ok-defs.defs x is) ∙ defs)
