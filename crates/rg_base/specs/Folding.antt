-- Texts as they are compared where the case of ASCII letters counts for nothing.
use Rattle.std.specs.Prelude.{ℕ, Bool, List, map, if◌then◌else◌}
use Rattle.std.specs.Char.{to_ascii_lowercase}

-- the character, in lower case if it is an ASCII letter and folding is asked
abbrev pub folded_char : Bool → ℕ → ℕ
folded_char fold c = if fold then to_ascii_lowercase c else c

-- the text with each character folded, where that is asked
abbrev pub folded : Bool → List ℕ → List ℕ
folded fold text = map (folded_char fold) text
