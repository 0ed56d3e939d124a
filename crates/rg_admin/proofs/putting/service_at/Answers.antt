use Rattle.std.proofs.Common.{List, map, sym, subst}
use Rattle.rg_base.specs.Places.{IsIndex}
use Rattle.rg_cmd.specs.declared.state.ServiceRow.{ServiceRow}
use Rattle.rg_admin.proofs.putting.service_at.Goals as goal

pub find_placed-requires : goal.find_placed-requires
find_placed-requires c = subst (λ (rows : List ServiceRow). IsIndex c.args.putting.now.services (map (λ (row : ServiceRow). row.name) rows)) (sym c.as_slice.ensures) c.requires.services
