use Rattle.std.proofs.Common.{◌∙◌, ap}
use Rattle.rg_run_script.proofs.Runs.{failed_from, wrote_from, wrote_part_from}
use Rattle.rg_run_keep.proofs.Finishing.{broken, not_early, unfinished, unread_keeps, written}
use Rattle.rg_run_keep.proofs.script.keep_script.Goals as goal

pub returns-in-Err-clause-run : goal.returns-in-Err-clause-run
returns-in-Err-clause-run g c = unread_keeps _ _ _ _ _ _ (c.in-Err.ensures.unread (g.C.Clock.given c.args.clock.now))

pub returns-in-Ok-write_all-clause-run : goal.returns-in-Ok-write_all-clause-run
returns-in-Ok-write_all-clause-run g c =
    written _ _ _ _ _ _ _ _ c.in-Ok.ensures.all c.in-Ok.ensures.ended c.in-Ok.ensures.short c.as_slice.ensures.value c.as_bytes.ensures.value
    _ _ _ _ _ (rw c.in-Ok-followed.is at c.follow_kept-keeper.ensures.ended) (rw c.in-Ok-followed.is at c.follow_kept-keeper.ensures.ends) c.follow_kept-keeper.ensures.counted c.in-Ok.ensures.kept.0 (rw c.in-Ok-followed.is at c.follow_kept-keeper.ensures.failed)
    (wrote_from _ _ _ _ (ap g.K.Sink.held c.in-Ok.ensures.kept.1) c.in-Ok-write_all.ensures.ok) (c.in-Ok-write_all.ensures.kept ∙ ap g.K.Sink.faults c.in-Ok.ensures.kept.1)

pub returns-in-Ok-write_all-clause-unread : goal.returns-in-Ok-write_all-clause-unread
returns-in-Ok-write_all-clause-unread g c = λ early. not_early _ _ (rw c.in-Ok-followed.is at c.follow_kept-keeper.ensures.ends) early

pub returns-in-Ok-followed-clause-run : goal.returns-in-Ok-followed-clause-run
returns-in-Ok-followed-clause-run g c =
    broken _ _ _ _ _ _ _ _ c.in-Ok.ensures.all c.in-Ok.ensures.ended c.in-Ok.ensures.short c.as_slice.ensures.value c.as_bytes.ensures.value
    _ _ _ _ _ (rw c.in-Ok-followed.is at c.follow_kept-keeper.ensures.ended) (rw c.in-Ok-followed.is at c.follow_kept-keeper.ensures.ends) c.follow_kept-keeper.ensures.counted c.in-Ok.ensures.kept.0
    (wrote_part_from _ _ _ _ (ap g.K.Sink.held c.in-Ok.ensures.kept.1) c.in-Err-write_all.ensures.err) (failed_from _ _ _ (ap g.K.Sink.faults c.in-Ok.ensures.kept.1) c.in-Err-write_all.ensures.failed)

pub returns-clause-run : goal.returns-clause-run
returns-clause-run g c =
    unfinished _ _ _ _ _ _ c.in-Ok.ensures.all c.in-Ok.ensures.ended c.in-Ok.ensures.short c.as_slice.ensures.value (ap g.K.Sink.held c.in-Ok.ensures.kept.1)
    _ _ _ _ (rw c.in-Err-followed.is at c.follow_kept-keeper.ensures.cut_off) c.follow_kept-keeper.ensures.counted c.in-Ok.ensures.kept.0 (ap g.K.Sink.faults c.in-Ok.ensures.kept.1)
