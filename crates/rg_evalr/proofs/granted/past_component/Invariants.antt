use Rattle.std.proofs.Common.{◌≡◌, length}
use denote.Text.{Utf8}
use denote.Shadow.{shadow}
use Rattle.std.specs.Str.{chars}
use Rattle.rg_evalr.specs.Granted.{past_component}
use Rattle.rg_evalr.proofs.granted.past_component.Given as goal

-- what follows the component in the rest follows it in the whole
abbrev pub invariant-characters : goal.invariant-characters
invariant-characters l = record {
  texts : shadow (Utf8 l.text) × shadow (Utf8 l.component);
  same : past_component (chars l.text) (chars l.component) ≡ past_component (chars l.fn.text) (chars l.fn.component);
}

abbrev pub decreases-characters : goal.decreases-characters
decreases-characters l = length (chars l.text)
