-- What the words of the command line ask for.
use Rattle.std.specs.Prelude.{ℕ, List, [], ◌∷◌, codes, Option, Some, None, if◌then◌else◌}
use Rattle.std.specs.Str.{bytes_eq}
use Rattle.rg_test_script.specs.declared.form.Form.{Form}
use Rattle.rg_test_script.specs.declared.form.Form.TheVariants as form

-- `[--junit]`
abbrev pub form_of : List (List ℕ) → Option Form
form_of [] = Some form.Words
form_of (word ∷ []) = if bytes_eq word (codes "--junit") then Some form.Junit else None
form_of _ = None
