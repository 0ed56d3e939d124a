-- The characters of a path below the command.
use Rattle.std.proofs.Common.{◌≡◌, ℕ, List, ◌++◌, codes, refl, ap, ◌∙◌, true}
use Rattle.std.specs.Str.{IsUtf8, is_utf8, chars}
use Rattle.std.proofs.Math.Utf8.{encode}
use Rattle.std.proofs.lemmas.Str.{chars-append, IsUtf8-from_is_utf8}

name : chars (codes "/command") ≡ codes "/command"
unfolding chars
name = refl

name_utf8 : is_utf8 (codes "/command") ≡ true
unfolding is_utf8 chars encode
name_utf8 = refl

pub chars-command : (rest : List ℕ) → chars (codes "/command" ++ rest) ≡ codes "/command" ++ chars rest
chars-command rest = chars-append (codes "/command") rest (IsUtf8-from_is_utf8 (codes "/command") name_utf8) ∙ ap (λ cs. cs ++ chars rest) name

pub ruleset paths = (chars-command)
