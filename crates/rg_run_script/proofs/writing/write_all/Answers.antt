use Rattle.std.proofs.Common.{arith, ◌∙◌}
use Rattle.rg_run_script.proofs.Streams.{wrote_more}
use Rattle.rg_run_script.proofs.writing.write_all.Goals as goal

pub loop-written-preserved : goal.loop-written-preserved
loop-written-preserved g c = record {
  within = omega (arith, c.in_ok-written.ensures.within);
  prefix = wrote_more _ _ _ c.args.text.now c.loop-written.written c.in_ok-written.field-0 c.loop-written.invariant.prefix
      (rw c.split_at.ensures.back at c.in_ok-written.ensures.took);
  kept = c.in_ok-written.ensures.kept ∙ c.loop-written.invariant.kept;
}
