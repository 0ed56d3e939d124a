use Rattle.std.proofs.Common.{◌≡◌, length}
use denote.Text.{Utf8}
use denote.Shadow.{shadow}
use Rattle.std.specs.Str.{chars}
use Rattle.rg_pattern.specs.Tests.{strip_prefix}
use Rattle.rg_pattern.proofs.matching.strip_prefix.Given as goal

abbrev pub invariant-loop-c : goal.invariant-loop-c
invariant-loop-c l = record {
  texts : shadow (Utf8 l.text) × shadow (Utf8 l.prefix);
  rest : strip_prefix l.fold (chars l.prefix) (chars l.text) ≡ strip_prefix l.fold (chars l.fn.prefix) (chars l.fn.text);
}

abbrev pub decreases-loop-c : goal.decreases-loop-c
decreases-loop-c l = length (chars l.prefix)
