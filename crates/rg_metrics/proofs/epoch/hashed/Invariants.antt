use Rattle.std.proofs.Common.{◌≡◌, take, fold}
use Rattle.rg_metrics.specs.Epoch.{fnv_step}
use Rattle.rg_metrics.proofs.epoch.hashed.Given as goal

abbrev pub invariant-loop-byte : goal.invariant-loop-byte
invariant-loop-byte l = l.hash ≡ fold fnv_step l.fn.hash (take l.byte-index l.bytes)
