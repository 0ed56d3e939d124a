use Rattle.std.proofs.Common.{◌≡◌, ◌≤◌, ◌-◌, length, take}
use Rattle.rg_run_script.specs.Streams.{Wrote}
use Rattle.rg_run_script.proofs.writing.write_all.Given as goal

-- so many bytes of the text were written
abbrev pub invariant-loop-written : goal.invariant-loop-written
invariant-loop-written g l = record {
  within : l.written ≤ length l.text;
  prefix : Wrote (g.K.Sink.held l.fn.sink) (g.K.Sink.held l.sink) (take l.written l.text);
  kept : g.K.Sink.faults l.sink ≡ g.K.Sink.faults l.fn.sink;
}

abbrev pub decreases-loop-written : goal.decreases-loop-written
decreases-loop-written g l = length l.text - l.written
