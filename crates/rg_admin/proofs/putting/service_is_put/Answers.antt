use Rattle.std.proofs.Common.{map, ◌∙◌}
use Rattle.rg_base.proofs.Lists.{among_mapped}
use Rattle.rg_cmd.specs.declared.state.ServiceRow.{ServiceRow}
use Rattle.rg_admin.proofs.putting.service_is_put.Goals as goal

pub returns : goal.returns
returns c =
    let services = c.args.putting.now.state.services.items in
    c.has_place.ensures (map (λ (row : ServiceRow). row.name) services) c.requires.services ∙ among_mapped (λ (row : ServiceRow). row.name) c.args.name.now services
