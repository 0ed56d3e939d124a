-- `IsUnjudged` as a test, byte by byte.
use Rattle.std.specs.Prelude.{ℕ, ◌==◌, ◌&&◌, not, List, [], ◌∷◌, Bool, true, false, if◌then◌else◌}
use Rattle.std.specs.List.{list_all}
use Rattle.httparse.specs.Ascii.{line_feed, carriage_return, space}
use Rattle.httparse.specs.Grammar.{is_token_byte}
use Rattle.rg_http.specs.Framing.{ends_target}

-- whether a line feed comes first
abbrev pub begins_lf : List ℕ → Bool
begins_lf [] = false
begins_lf (b ∷ bytes) = b == line_feed

-- the bytes after the empty lines at the front
abbrev pub after_blank : List ℕ → List ℕ
after_blank [] = []
after_blank (b ∷ []) = if b == line_feed then [] else b ∷ []
after_blank (b ∷ c ∷ bytes) =
    if b == line_feed then after_blank (c ∷ bytes) else
    if b == carriage_return && c == line_feed then after_blank bytes else b ∷ c ∷ bytes

-- no byte ends the target
abbrev pub is_in_target : List ℕ → Bool
is_in_target bytes = list_all (λ b. not (ends_target b)) bytes

-- bytes of a method, of which some came before, one space and no end of the target
abbrev pub is_in_line : Bool → List ℕ → Bool
is_in_line some [] = false
is_in_line some (b ∷ bytes) = if is_token_byte b then is_in_line true bytes else some && (b == space && is_in_target bytes)
