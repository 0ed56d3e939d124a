use Rattle.std.proofs.Common.{◌≡◌, false, length}
use Rattle.std.specs.Str.{chars}
use denote.Shadow.{shadow}
use denote.Text.{Utf8}
use Rattle.rg_pattern.specs.Atoms.{has_user}
use Rattle.rg_pattern.specs.Reading.{atoms_of}
use Rattle.rg_pattern.proofs.values.names_user.Given as goal

abbrev pub invariant-loop-atom : goal.invariant-loop-atom
invariant-loop-atom l = record {
  same : has_user (atoms_of false (chars l.rest)) ≡ has_user (atoms_of false (chars l.text));
  is_text : shadow (Utf8 l.rest);
}

abbrev pub decreases-loop-atom : goal.decreases-loop-atom
decreases-loop-atom l = length (chars l.rest)
