use Rattle.std.proofs.Common.{◌∙◌, ap, refl}
use Rattle.rg_run_script.proofs.HookedRuns.{broken_hooked, unfinished_hooked, unread_hooked, written_hooked}
use Rattle.rg_run_script.proofs.Runs.{failed_from, wrote_from, wrote_part_from}
use Rattle.rg_run_script.proofs.work.work_script_hooked.Goals as goal

pub returns-in-Err-clause-run : goal.returns-in-Err-clause-run
returns-in-Err-clause-run g c = unread_hooked _ _ _ _ _ _ refl (c.in-Err.ensures.unread (g.C.Clock.given c.args.clock.now))

pub returns-in-Ok-write_all-clause-run : goal.returns-in-Ok-write_all-clause-run
returns-in-Ok-write_all-clause-run g c =
    written_hooked _ _ _ _ _ _ _ c.in-Ok.ensures.all c.in-Ok.ensures.ended c.in-Ok.ensures.short c.as_slice.ensures.value c.in-Ok.ensures.kept.0
    _ _ c.in-Ok-follow_hooked.worked.status _ c.in-Ok-follow_hooked.ensures.done c.as_bytes.ensures.value
    (wrote_from _ _ _ _ (ap g.K.Sink.held c.in-Ok.ensures.kept.1) c.in-Ok-write_all.ensures.ok) c.in-Ok-follow_hooked.ensures.ends
    (c.in-Ok-write_all.ensures.kept ∙ ap g.K.Sink.faults c.in-Ok.ensures.kept.1)

pub returns-in-Ok-follow_hooked-clause-run : goal.returns-in-Ok-follow_hooked-clause-run
returns-in-Ok-follow_hooked-clause-run g c =
    broken_hooked _ _ _ _ _ _ _ c.in-Ok.ensures.all c.in-Ok.ensures.ended c.in-Ok.ensures.short c.as_slice.ensures.value c.in-Ok.ensures.kept.0
    _ _ _ _ c.in-Ok-follow_hooked.ensures.done c.as_bytes.ensures.value
    (wrote_part_from _ _ _ _ (ap g.K.Sink.held c.in-Ok.ensures.kept.1) c.in-Err-write_all.ensures.err)
    (failed_from _ _ _ (ap g.K.Sink.faults c.in-Ok.ensures.kept.1) c.in-Err-write_all.ensures.failed)

pub returns-clause-run : goal.returns-clause-run
returns-clause-run g c =
    unfinished_hooked _ _ _ _ _ _ _ c.in-Ok.ensures.all c.in-Ok.ensures.ended c.in-Ok.ensures.short c.as_slice.ensures.value c.in-Ok.ensures.kept.0
    c.in-Err-follow_hooked.ensures.cut_off (ap g.K.Sink.held c.in-Ok.ensures.kept.1) (ap g.K.Sink.faults c.in-Ok.ensures.kept.1)
