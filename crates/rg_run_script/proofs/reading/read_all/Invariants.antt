use Rattle.std.proofs.Common.{◌≡◌, ◌≤◌, ◌-◌, Some, vec_len}
use Rattle.rg_run_script.specs.Limits.{limit, line_limit, line_after}
use Rattle.rg_run_script.specs.Streams.{HasRead}
use Rattle.rg_run_script.proofs.reading.read_all.Given as goal

-- what was read of the source is within the limits, and its last line has so many bytes
abbrev pub invariant-reads : goal.invariant-reads
invariant-reads g l = record {
  read : HasRead (g.S.Source.left l.fn.source) l.bytes.items (g.S.Source.left l.source);
  line : line_after 0 l.bytes.items ≡ Some l.line;
  bound : l.line ≤ line_limit;
  within : vec_len l.bytes ≤ limit;
  kept : g.S.Source.faults l.source ≡ g.S.Source.faults l.fn.source;
}

abbrev pub decreases-reads : goal.decreases-reads
decreases-reads g l = limit - vec_len l.bytes
