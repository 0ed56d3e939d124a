use Rattle.std.proofs.Common.{◌∙◌, ap}
use Rattle.rg_run_script.proofs.Runs.{broken, failed_from, unfinished, unread_ends, unread_stands, written, written_in, wrote_from, wrote_part_from}
use Rattle.rg_run_script.proofs.work.work_script.Goals as goal

pub returns-in-Err-clause-run : goal.returns-in-Err-clause-run
returns-in-Err-clause-run g c = unread_stands _ _ _ _ (c.in-Err.ensures.unread (g.C.Clock.given c.args.clock.now))

pub returns-in-Err-clause-ends_in : goal.returns-in-Err-clause-ends_in
returns-in-Err-clause-ends_in g c = λ done. unread_ends _ _ _ _ (c.in-Err.ensures.unread (g.C.Clock.given c.args.clock.now)) done

pub returns-in-Ok-write_all-clause-run : goal.returns-in-Ok-write_all-clause-run
returns-in-Ok-write_all-clause-run g c =
    written _ _ _ _ _ c.in-Ok.ensures.all c.in-Ok.ensures.ended c.in-Ok.ensures.short c.as_slice.ensures.value c.in-Ok.ensures.kept.0
    _ _ c.in-Ok-follow.worked.status _ c.in-Ok-follow.ensures.done c.as_bytes.ensures.value
    (wrote_from _ _ _ _ (ap g.K.Sink.held c.in-Ok.ensures.kept.1) c.in-Ok-write_all.ensures.ok) c.in-Ok-follow.ensures.ends
    (c.in-Ok-write_all.ensures.kept ∙ ap g.K.Sink.faults c.in-Ok.ensures.kept.1)

pub returns-in-Ok-write_all-clause-ends_in : goal.returns-in-Ok-write_all-clause-ends_in
returns-in-Ok-write_all-clause-ends_in g c = λ done.
    written_in _ _ _ _ _ c.in-Ok.ensures.all c.in-Ok.ensures.ended c.in-Ok.ensures.short c.as_slice.ensures.value c.in-Ok.ensures.kept.0
    _ _ c.in-Ok-follow.worked.status _ c.in-Ok-follow.ensures.done c.as_bytes.ensures.value
    (wrote_from _ _ _ _ (ap g.K.Sink.held c.in-Ok.ensures.kept.1) c.in-Ok-write_all.ensures.ok) done

pub returns-in-Ok-follow-clause-run : goal.returns-in-Ok-follow-clause-run
returns-in-Ok-follow-clause-run g c =
    broken _ _ _ _ _ c.in-Ok.ensures.all c.in-Ok.ensures.ended c.in-Ok.ensures.short c.as_slice.ensures.value c.in-Ok.ensures.kept.0
    _ _ _ _ c.in-Ok-follow.ensures.done c.as_bytes.ensures.value
    (wrote_part_from _ _ _ _ (ap g.K.Sink.held c.in-Ok.ensures.kept.1) c.in-Err-write_all.ensures.err)
    (failed_from _ _ _ (ap g.K.Sink.faults c.in-Ok.ensures.kept.1) c.in-Err-write_all.ensures.failed)

pub returns-clause-run : goal.returns-clause-run
returns-clause-run g c =
    unfinished _ _ _ _ _ c.in-Ok.ensures.all c.in-Ok.ensures.ended c.in-Ok.ensures.short c.as_slice.ensures.value c.in-Ok.ensures.kept.0
    c.in-Err-follow.ensures.cut_off (ap g.K.Sink.held c.in-Ok.ensures.kept.1) (ap g.K.Sink.faults c.in-Ok.ensures.kept.1)
