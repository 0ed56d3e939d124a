use Rattle.std.proofs.Common.{◌≡◌, ◌+◌, length}
use Rattle.rg_pattern.specs.Tests.{covers, some_suffix}
use Rattle.rg_pattern.proofs.covering.covers_suffix.Given as goal

abbrev pub invariant-retry : goal.invariant-retry
invariant-retry l = some_suffix (covers l.fold l.fn.pattern) l.fn.other ≡ some_suffix (covers l.fold l.pattern) l.other

abbrev pub decreases-retry : goal.decreases-retry
decreases-retry l = length l.pattern + length l.other
