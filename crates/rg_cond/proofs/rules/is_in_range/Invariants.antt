use Rattle.std.proofs.Common.{◌≡◌, length}
use denote.Text.{Utf8}
use denote.Shadow.{shadow}
use Rattle.std.specs.Str.{chars}
use Rattle.rg_cond.specs.Conditions.{is_in_range}
use Rattle.rg_cond.proofs.rules.is_in_range.Given as goal

-- what is left of the value stands for what is left of the address, just where the whole does
abbrev pub invariant-characters : goal.invariant-characters
invariant-characters l = record {
  texts : shadow (Utf8 l.value) × shadow (Utf8 l.address);
  same : is_in_range (chars l.value) (chars l.address) ≡ is_in_range (chars l.fn.value) (chars l.fn.address);
}

abbrev pub decreases-characters : goal.decreases-characters
decreases-characters l = length (chars l.value)
