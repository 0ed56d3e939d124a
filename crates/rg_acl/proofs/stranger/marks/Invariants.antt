use Rattle.std.proofs.Common.{◌≡◌, ◌+◌, length}
use Rattle.std.specs.Str.{chars}
use denote.Shadow.{shadow}
use denote.Text.{Utf8}
use Rattle.rg_acl.specs.Strangers.{marks}
use Rattle.rg_acl.proofs.stranger.marks.Given as goal

abbrev pub invariant-loop-c : goal.invariant-loop-c
invariant-loop-c l = record {
  texts : shadow (Utf8 l.rest);
  within : l.count + length (chars l.rest) ≡ l.most;
  same : l.count + marks (chars l.rest) ≡ marks (chars l.text);
}

abbrev pub decreases-loop-c : goal.decreases-loop-c
decreases-loop-c l = length (chars l.rest)
