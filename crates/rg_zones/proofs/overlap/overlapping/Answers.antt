use Rattle.std.proofs.Common.{sym, subst}
use Rattle.std.specs.Str.{chars}
use Rattle.rg_zone_rules.specs.Overlap.{IsLeastOverlap}
use Rattle.rg_zones.proofs.Least.{least}
use Rattle.rg_zones.proofs.overlap.overlapping.Goals as goal

pub returns-clause-exact : goal.returns-clause-exact
returns-clause-exact c =
    let service = chars c.args.service.now in
    let def = c.args.def.now in
    let zones = c.args.zones.now in
    let law = c.compiled_overlap_is_decided.ensures in
    let found = c.in_ok-pair.ensures in
    subst (IsLeastOverlap service def zones) (sym found.test)
    (least service def zones (law.shown service def) (law.found service def) c.requires.fit found.scalars)
