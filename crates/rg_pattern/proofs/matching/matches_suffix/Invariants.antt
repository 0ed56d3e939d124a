use Rattle.std.proofs.Common.{◌≡◌, ◌≤◌, ◌+◌, ◌*◌, length}
use denote.Text.{Utf8}
use denote.Shadow.{shadow}
use Rattle.std.specs.Str.{chars}
use Rattle.rg_pattern.specs.Tests.{stands, some_suffix}
use Rattle.rg_pattern.proofs.matching.matches_suffix.Given as goal

abbrev pub invariant-retry : goal.invariant-retry
invariant-retry l = record {
  utf8 : shadow (Utf8 l.text);
  same : some_suffix (stands l.fold (chars l.user) l.fn.pattern) (chars l.fn.text) ≡ some_suffix (stands l.fold (chars l.user) l.pattern) (chars l.text);
  work : l.work.count + (length l.pattern + 1) * (length (chars l.text) + 1) ≤ l.fn.work.count + (length l.fn.pattern + 1) * (length (chars l.fn.text) + 1);
}

abbrev pub decreases-retry : goal.decreases-retry
decreases-retry l = length l.pattern + length (chars l.text)
