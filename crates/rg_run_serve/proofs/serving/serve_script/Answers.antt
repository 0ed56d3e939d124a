use Rattle.std.proofs.Common.{◌∙◌, ap, refl, rules}
use Rattle.rg_run_script.proofs.Runs.{failed_from, wrote_from, wrote_part_from}
use Rattle.rg_run_serve.proofs.Finishing.{finished, stopped, there, unfinished, unprinted, unread_serves}
use Rattle.rg_run_serve.proofs.serving.serve_script.Goals as goal

pub returns-in-Err-clause-run : goal.returns-in-Err-clause-run
returns-in-Err-clause-run g c = unread_serves _ _ _ _ _ _ (c.in-Err.ensures.unread (g.C.Clock.given c.args.clock.now))

pub returns-in-Err-write_all-clause-run : goal.returns-in-Err-write_all-clause-run
returns-in-Err-write_all-clause-run g c =
    unprinted _ _ _ _ _ _ _ _ _ _ c.in-Ok.ensures.all c.in-Ok.ensures.ended c.in-Ok.ensures.short c.as_slice.ensures.value c.in-Ok.ensures.kept.0
    c.in-Ok-prepare.ensures _ c.as_bytes.ensures.value
    (wrote_part_from _ _ _ _ (ap g.K.Sink.held c.in-Ok.ensures.kept.1) c.in-Err-write_all.ensures.err)
    (failed_from _ _ _ (ap g.K.Sink.faults c.in-Ok.ensures.kept.1) c.in-Err-write_all.ensures.failed)

pub returns-in-Err-take_links-clause-run : goal.returns-in-Err-take_links-clause-run
returns-in-Err-take_links-clause-run g c =
    stopped _ _ _ _ _ _ _ _ _ _ _ _ _ _ c.in-Ok.ensures.all c.in-Ok.ensures.ended c.in-Ok.ensures.short c.as_slice.ensures.value c.in-Ok.ensures.kept.0
    (there _ _ _ _ _ _ _ c.in-Some.is c.in-Ok-prepare.ensures) (search rules) c.as_bytes.ensures.value
    (wrote_from _ _ _ _ (ap g.K.Sink.held c.in-Ok.ensures.kept.1) c.in-Ok-write_all.ensures.ok)
    _ c.in-Err-take_links.ensures.stopped refl (c.in-Ok-write_all.ensures.kept ∙ ap g.K.Sink.faults c.in-Ok.ensures.kept.1)

pub returns-in-Ok-write_all-2-clause-run : goal.returns-in-Ok-write_all-2-clause-run
returns-in-Ok-write_all-2-clause-run g c =
    finished _ _ _ _ _ _ _ _ _ _ _ _ _ _ c.in-Ok.ensures.all c.in-Ok.ensures.ended c.in-Ok.ensures.short c.as_slice.ensures.value c.in-Ok.ensures.kept.0
    (there _ _ _ _ _ _ _ c.in-Some.is c.in-Ok-prepare.ensures) (search rules) c.as_bytes.ensures.value
    (wrote_from _ _ _ _ (ap g.K.Sink.held c.in-Ok.ensures.kept.1) c.in-Ok-write_all.ensures.ok)
    _ _ c.in-Ok-take_links.ensures.served c.as_bytes-2.ensures.value c.in-Ok-write_all-2.ensures.ok
    (c.in-Ok-write_all-2.ensures.kept ∙ (c.in-Ok-write_all.ensures.kept ∙ ap g.K.Sink.faults c.in-Ok.ensures.kept.1))

pub returns-clause-run : goal.returns-clause-run
returns-clause-run g c =
    unfinished _ _ _ _ _ _ _ _ _ _ _ _ _ _ c.in-Ok.ensures.all c.in-Ok.ensures.ended c.in-Ok.ensures.short c.as_slice.ensures.value c.in-Ok.ensures.kept.0
    (there _ _ _ _ _ _ _ c.in-Some.is c.in-Ok-prepare.ensures) (search rules) c.as_bytes.ensures.value
    (wrote_from _ _ _ _ (ap g.K.Sink.held c.in-Ok.ensures.kept.1) c.in-Ok-write_all.ensures.ok)
    _ _ c.in-Ok-take_links.ensures.served c.as_bytes-2.ensures.value c.in-Err-write_all-2.ensures.err
    (failed_from _ _ _ (c.in-Ok-write_all.ensures.kept ∙ ap g.K.Sink.faults c.in-Ok.ensures.kept.1) c.in-Err-write_all-2.ensures.failed)
