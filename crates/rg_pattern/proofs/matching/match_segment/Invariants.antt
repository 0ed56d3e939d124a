use Rattle.std.proofs.Common.{◌≡◌, ◌+◌, length}
use denote.Text.{Utf8}
use denote.Shadow.{shadow}
use Rattle.std.specs.Str.{chars}
use Rattle.rg_pattern.specs.Tests.{stands}
use Rattle.rg_pattern.specs.Steps.{LeadsTo}
use Rattle.rg_pattern.proofs.matching.match_segment.Given as goal

abbrev pub invariant-loop-atom : goal.invariant-loop-atom
invariant-loop-atom l = record {
  utf8 : shadow (Utf8 l.text);
  leads : LeadsTo (stands l.fold (chars l.user)) l.fn.pattern (chars l.fn.text) l.pattern (chars l.text);
  work : l.work.count + length l.pattern ≡ l.fn.work.count + length l.fn.pattern;
}

abbrev pub decreases-loop-atom : goal.decreases-loop-atom
decreases-loop-atom l = length l.pattern
