use Rattle.std.proofs.Common.{◌≡◌, ◌++◌, length}
use denote.Text.{Utf8}
use denote.Shadow.{shadow}
use Rattle.std.specs.Str.{chars}
use Rattle.rg_facts.specs.Texts.{replaced, replaced_past}
use Rattle.rg_facts.proofs.masks.replaced.Given as goal

-- the text with what the rest of the template gives is the whole
abbrev pub invariant-loop-c : goal.invariant-loop-c
invariant-loop-c l = record {
  utf8 : shadow (Utf8 l.rest);
  whole : l.text ++ replaced_past (chars l.column) 0 (chars l.rest) ≡ replaced (chars l.template) (chars l.column);
}

abbrev pub decreases-loop-c : goal.decreases-loop-c
decreases-loop-c l = length (chars l.rest)
