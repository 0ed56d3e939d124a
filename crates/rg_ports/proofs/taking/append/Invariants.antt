use Rattle.std.proofs.Common.{◌≡◌, ◌++◌, take}
use Rattle.rg_ports.proofs.taking.append.Given as goal

-- what was appended so far
abbrev pub invariant-loop-byte : goal.invariant-loop-byte
invariant-loop-byte l = record {
  at : l.n ≡ l.byte-index;
  taken : l.held.items ≡ l.fn.held.items ++ take l.n l.bytes;
}
