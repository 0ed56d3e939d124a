-- The characters of a target.
use Rattle.std.proofs.Common.{◌≡◌, ℕ, List, ◌++◌, ap, ◌∙◌}
use Rattle.std.specs.Str.{IsUtf8, chars}
use Rattle.std.proofs.lemmas.Str.{chars-append, chars-nil}

pub chars-target : (path service query : List ℕ) → IsUtf8 path → IsUtf8 service
    → chars (path ++ (service ++ query)) ≡ chars path ++ (chars service ++ chars query)
chars-target path service query p s = chars-append path (service ++ query) p ∙ ap (λ cs. chars path ++ cs) (chars-append service query s)

pub ruleset targets = (chars-target, chars-nil)
