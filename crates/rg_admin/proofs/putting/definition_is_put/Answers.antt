use Rattle.std.proofs.Common.{map, ◌∙◌}
use Rattle.rg_base.proofs.Lists.{among_mapped}
use Rattle.rg_defs.specs.declared.service_def.ServiceDef.{ServiceDef}
use Rattle.rg_admin.proofs.putting.definition_is_put.Goals as goal

pub returns : goal.returns
returns c =
    let defs = c.args.putting.now.state.defs.items in
    c.has_place.ensures (map (λ (def : ServiceDef). def.name) defs) c.requires.defs ∙ among_mapped (λ (def : ServiceDef). def.name) c.args.name.now defs
