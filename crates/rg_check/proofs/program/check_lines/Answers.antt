use Rattle.std.proofs.Common.{[]}
use Rattle.rg_check.specs.Checking.{outcome}
use Rattle.rg_check.proofs.ByPlace.{by_place}
use Rattle.rg_check.proofs.Walks.{converted, cut_off, ends_so, finished}
use Rattle.rg_check.proofs.program.check_lines.Goals as goal

pub returns-in-Err-clause-cut_off : goal.returns-in-Err-clause-cut_off
returns-in-Err-clause-cut_off g c =
    cut_off _ _ _ _ (by_place c.zones_apart_by_pairs.ensures c.plugin_is_always_viewed.ensures.viewed c.sound_without_cause.ensures c.args.command) c.requires
    _ c.new-checker.ensures c.in-Err.ensures.cut_off

pub returns-in-Ok-finish-clause-done : goal.returns-in-Ok-finish-clause-done
returns-in-Ok-finish-clause-done g c =
    finished _ _ _ _ _ _ _ _ _ c.in-Ok.ensures.done.0
    (converted _ _ _ _ (by_place c.zones_apart_by_pairs.ensures c.plugin_is_always_viewed.ensures.viewed c.sound_without_cause.ensures c.args.command) c.requires
    _ c.new-checker.ensures [] _ c.in-Ok.ensures.done.1)
    c.in-Ok-finish.ensures.text c.in-Ok-finish.ensures.status

pub returns-in-Ok-finish-clause-ends : goal.returns-in-Ok-finish-clause-ends
returns-in-Ok-finish-clause-ends g c = ends_so _ _ c.in-Ok-finish.ensures.status

-- memory was refused behind the last line
pub returns-in-Err-finish-clause-cut_off : goal.returns-in-Err-finish-clause-cut_off
returns-in-Err-finish-clause-cut_off g c =
    let v = converted _ _ _ _ (by_place c.zones_apart_by_pairs.ensures c.plugin_is_always_viewed.ensures.viewed c.sound_without_cause.ensures c.args.command) c.requires
    _ c.new-checker.ensures [] _ c.in-Ok.ensures.done.1 in
    ([], outcome v.found, v.comes)
