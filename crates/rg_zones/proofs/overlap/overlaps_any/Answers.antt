use Rattle.std.proofs.Common.{List, ap, ◌∙◌}
use Rattle.std.specs.List.{list_any}
use Rattle.std.specs.Str.{chars}
use Rattle.rg_defs.specs.declared.service_def.Level.{Level}
use Rattle.rg_zone_rules.specs.declared.row.ZoneRow.{ZoneRow}
use Rattle.rg_zone_rules.specs.Overlap.{LevelPatterns, some_meet, zone_patterns}
use Rattle.rg_zones.proofs.Pairs.{any_meet_same}
use Rattle.rg_zones.proofs.overlap.overlaps_any.Goals as goal

pub returns : goal.returns
returns c =
    let service = chars c.args.service.now in
    let def = c.args.def.now in
    let others = c.args.others.now in
    c.in_ok-any.ensures
    ∙ ap (λ (ls : List Level). list_any (λ (other : ZoneRow). some_meet ls c.in_ok-zone.zone (zone_patterns service def other)) others) c.in_ok-paths.ensures
    ∙ ap (λ (z : List (List LevelPatterns)). list_any (λ (other : ZoneRow). some_meet def.levels.items z (zone_patterns service def other)) others) c.in_ok-zone.ensures.exact
    ∙ any_meet_same service def c.args.zone.now others
