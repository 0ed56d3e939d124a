use Rattle.std.proofs.Common.{◌≡◌, ◌≤◌, drop}
use Rattle.rg_run_script.specs.Limits.{line_limit, line_after}
use Rattle.rg_run_script.proofs.reading.after_bytes.Given as goal

-- the rest decides
abbrev pub invariant-loop-byte : goal.invariant-loop-byte
invariant-loop-byte l = record {
  bound : l.last ≤ line_limit;
  rest : line_after l.last (drop l.byte-index l.bytes) ≡ line_after l.line l.bytes;
}
