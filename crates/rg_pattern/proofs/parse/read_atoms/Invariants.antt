use Rattle.std.proofs.Common.{◌≡◌, ◌++◌, length}
use denote.Text.{Utf8}
use denote.Shadow.{shadow}
use Rattle.std.specs.Str.{chars}
use Rattle.rg_pattern.specs.Reading.{atoms_of}
use Rattle.rg_pattern.proofs.parse.read_atoms.Given as goal

abbrev pub invariant-loop-atom : goal.invariant-loop-atom
invariant-loop-atom l = record {
  texts : shadow (Utf8 l.rest);
  read : l.atoms.items ++ atoms_of l.wild (chars l.rest) ≡ atoms_of l.wild (chars l.text);
}

abbrev pub decreases-loop-atom : goal.decreases-loop-atom
decreases-loop-atom l = length (chars l.rest)
