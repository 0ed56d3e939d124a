use Rattle.std.proofs.Common.{◌∙◌, ap, string_bytes}
use Rattle.rg_run_script.proofs.Runs.{broken, failed_from, unfinished, unread_stands, written, wrote_from, wrote_part_from}
use Rattle.rg_check.proofs.program.check_script.Goals as goal

pub returns-in-Err : goal.returns-in-Err
returns-in-Err g c = unread_stands _ _ _ _ (c.in-Err.ensures.unread (g.C.Clock.given c.args.clock.now))

pub returns-in-Ok-write_all : goal.returns-in-Ok-write_all
returns-in-Ok-write_all g c =
    let d = c.in-Ok-check_lines.ensures.done in
    written _ _ _ _ _ c.in-Ok.ensures.all c.in-Ok.ensures.ended c.in-Ok.ensures.short c.as_slice.ensures.value c.in-Ok.ensures.kept.0
    (string_bytes c.in-Ok-check_lines.worked.text) _ c.in-Ok-check_lines.worked.status d.0 (d.1, d.2) c.as_bytes.ensures.value
    (wrote_from _ _ _ _ (ap g.K.Sink.held c.in-Ok.ensures.kept.1) c.in-Ok-write_all.ensures.ok) c.in-Ok-check_lines.ensures.ends
    (c.in-Ok-write_all.ensures.kept ∙ ap g.K.Sink.faults c.in-Ok.ensures.kept.1)

pub returns-in-Ok-check_lines : goal.returns-in-Ok-check_lines
returns-in-Ok-check_lines g c =
    let d = c.in-Ok-check_lines.ensures.done in
    broken _ _ _ _ _ c.in-Ok.ensures.all c.in-Ok.ensures.ended c.in-Ok.ensures.short c.as_slice.ensures.value c.in-Ok.ensures.kept.0
    (string_bytes c.in-Ok-check_lines.worked.text) _ c.in-Ok-check_lines.worked.status d.0 (d.1, d.2) c.as_bytes.ensures.value
    (wrote_part_from _ _ _ _ (ap g.K.Sink.held c.in-Ok.ensures.kept.1) c.in-Err-write_all.ensures.err)
    (failed_from _ _ _ (ap g.K.Sink.faults c.in-Ok.ensures.kept.1) c.in-Err-write_all.ensures.failed)

pub returns : goal.returns
returns g c =
    unfinished _ _ _ _ _ c.in-Ok.ensures.all c.in-Ok.ensures.ended c.in-Ok.ensures.short c.as_slice.ensures.value c.in-Ok.ensures.kept.0
    c.in-Err-check_lines.ensures.cut_off (ap g.K.Sink.held c.in-Ok.ensures.kept.1) (ap g.K.Sink.faults c.in-Ok.ensures.kept.1)
