use Rattle.std.proofs.Common.{ℕ, List, [], ◌∷◌, ◌++◌, ap, ◌∙◌, string_bytes}
use Rattle.std.specs.Str.{chars}
use Rattle.std.proofs.lemmas.Str.{IsUtf8-string_bytes}
use Rattle.rg_base.proofs.Chars.{chars_push}
use Rattle.rg_base.proofs.text.Text.push.Goals as goal

pub returns-clause-ok : goal.returns-clause-ok
returns-clause-ok c =
    ap chars c.in_ok-push.ensures.bytes ∙ chars_push (string_bytes c.self.inside.held) c.args.c (IsUtf8-string_bytes c.self.inside.held) c.ranges.c.0
    ∙ ap (λ (cs : List ℕ). cs ++ c.args.c ∷ []) c.self.view_is
