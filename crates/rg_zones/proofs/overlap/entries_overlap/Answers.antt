use Rattle.std.proofs.Common.{List, map, ap, ◌∙◌}
use Rattle.rg_defs.specs.declared.service_def.Level.{Level}
use Rattle.rg_zone_rules.specs.Overlap.{LevelPatterns, map_patterns, some_meet}
use Rattle.rg_zones.proofs.Pairs.{maps_meet_same}
use Rattle.rg_zones.proofs.overlap.entries_overlap.Goals as goal

pub returns : goal.returns
returns c =
    let def = c.args.def.now in
    let maps = c.args.entry.now.resources.items in
    let others = c.args.other.now.resources.items in
    c.in_ok-any.ensures
    ∙ ap (λ (ls : List Level). some_meet ls c.deref.result.now c.deref-2.result.now) c.in_ok-paths.ensures
    ∙ ap (λ (ms : List (List LevelPatterns)). some_meet def.levels.items ms c.deref-2.result.now) (c.deref.ensures.value ∙ c.in_ok-maps.ensures)
    ∙ ap (λ (ns : List (List LevelPatterns)). some_meet def.levels.items (map (map_patterns def) maps) ns) (c.deref-2.ensures.value ∙ c.in_ok-others.ensures)
    ∙ maps_meet_same def maps others
