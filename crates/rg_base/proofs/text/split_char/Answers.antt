use Rattle.std.proofs.Common.{◌++◌, sym, ap, ◌∙◌}
use Rattle.std.proofs.Math.Utf8.{encode}
use Rattle.std.proofs.lemmas.Str.{chars_past_char}
use Rattle.rg_base.proofs.text.split_char.Goals as goal

pub returns-in-Some : goal.returns-in-Some
returns-in-Some c = chars_past_char _ _ _ c.utf8.text (sym c.chars-characters.ensures.rest ∙ c.in-Some.ensures.steps.0 ∙ ap (λ r. encode c.in-Some.first ++ r) (sym c.as_str.ensures))
