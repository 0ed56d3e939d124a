use Rattle.std.proofs.Common.{◌≡◌, ◌+◌, drop}
use Rattle.rg_script.specs.Ends.{len_before}
use Rattle.rg_script.proofs.lines.len_before.Given as goal

-- no such byte was met
abbrev pub invariant-loop-byte : goal.invariant-loop-byte
invariant-loop-byte l = record {
  place : l.n ≡ l.byte-index;
  rest : len_before l.stop (drop l.byte-index l.bytes) + l.n ≡ len_before l.stop l.bytes;
}
