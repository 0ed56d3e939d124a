use Rattle.std.proofs.Common.{arith}
use Rattle.rg_hook.proofs.Runs.{on_err, runs_on, runs_stop}
use Rattle.rg_hook.proofs.enrichers.run_each.Goals as goal

pub returns-in_err-run_one-clause-err : goal.returns-in_err-run_one-clause-err
returns-in_err-run_one-clause-err g c =
    let l = c.loop-enricher in
    on_err c.from_residual.result _ (runs_stop _ c.args.list.now l.list c.args.request.now l.request l.enricher-index _ c.enricher-item.result c.run_one.new.enricher (omega arith) l.invariant c.in_err-run_one.ensures.err)

pub loop-enricher-preserved : goal.loop-enricher-preserved
loop-enricher-preserved g c =
    let l = c.loop-enricher in
    runs_on _ c.args.list.now l.list c.args.request.now l.request c.run_one.new.request l.enricher-index _ c.enricher-item.result c.run_one.new.enricher (omega arith) l.invariant c.in_ok-run_one.ensures.ran c.in_ok-run_one.ensures.request
