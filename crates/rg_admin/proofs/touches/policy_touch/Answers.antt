use Rattle.std.proofs.Common.{◌||◌, ◌∙◌, ap, sym}
use Rattle.rg_cmd.specs.Lookups.{has_def, service_at}
use Rattle.rg_admin_laws.specs.Touches.{policy_touch, restarts_if}
use Rattle.rg_admin.specs.Planning.{tag_def_named}
use Rattle.rg_admin.proofs.Looking.{tag_def_is}
use Rattle.rg_admin.proofs.touches.policy_touch.Goals as goal

pub returns-in-PutDef : goal.returns-in-PutDef
returns-in-PutDef c =
    let s = c.args.state.now in
    let service = c.args.service.now in
    let def = c.in-PutDef.def.name in
    c.restarts_if.ensures
    ∙ ap restarts_if (c.uses_def.ensures ∙ (λ i. has_def def (c.requires.service i) || tag_def_named def (c.requires.service i)) ∙ ap (λ b. has_def def (service_at s service) || b) (tag_def_is s c.requires.valid def service))
    ∙ ap (λ command. policy_touch s command service) (sym c.in-PutDef.is)
