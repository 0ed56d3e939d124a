use Rattle.std.proofs.Common.{◌≡◌, ◌++◌, List, ℕ, map, ap, ◌∙◌}
use Rattle.rg_defs.specs.PathTests.{on_one_path}
use Rattle.rg_zone_rules.specs.Overlap.{LevelPatterns, level_names, needed_names}
use Rattle.rg_zones.proofs.Joining.{each_itself}
use Rattle.rg_zones.proofs.meeting.reaches_needed.Goals as goal

pub returns : goal.returns
returns c =
    let paths = c.args.paths.now in
    let ones : c.as_slice.result.now ≡ c.args.map.now = c.as_slice.ensures.value ∙ c.map.view_is in
    let needed : c.as_slice-2.result.now ≡ needed_names c.args.other.now = c.as_slice-2.ensures.value ∙ c.other.invariant ∙ ap needed_names c.other.view_is in
    c.both_on_one_path.ensures
    ∙ ap (λ (ms : List LevelPatterns). on_one_path paths (level_names ms ++ map (λ (t : List ℕ). t) c.as_slice-2.result.now)) ones
    ∙ ap (λ (names : List (List ℕ)). on_one_path paths (level_names c.args.map.now ++ names)) (each_itself c.as_slice-2.result.now ∙ needed)
