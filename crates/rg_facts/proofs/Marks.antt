-- `{col}` at the front of a text.
use Rattle.std.proofs.Common.{◌≡◌, ◌++◌, ℕ, Bool, true, false, List, [], ◌∷◌, Option, Some, None, take, drop, refl, sym, ap, ◌∙◌, if◌then◌else◌}
use Rattle.std.specs.Prelude.{MatchOption}
use Rattle.std.specs.Str.{IsUtf8, chars}
use Rattle.std.specs.Str.Pattern.{FindsTextPrefix, LacksTextAt, StripsPrefix}
use Rattle.std.proofs.lemmas.List.{take-append-drop}
use Rattle.std.proofs.lemmas.Slice.Eq.{bytes_eq-Decides}
use Rattle.std.proofs.lemmas.Str.{chars-append, chars-nil, encodes-chars}
use Rattle.std.proofs.Math.Utf8.{encode, encodes}
use denote.Bor.{Bor}
use Rattle.rg_facts.specs.Texts.{begins_with_mark, col_mark, replaced_past}

pub ruleset spelled = (chars-nil)

mark_chars : chars col_mark ≡ col_mark
unfolding chars
mark_chars = refl

mark_bytes : (t : List ℕ) → encodes (col_mark ++ t) ≡ col_mark ++ encodes t
unfolding encode
mark_bytes t = refl

mark_utf8 : IsUtf8 col_mark
mark_utf8 = (col_mark, (refl, mark_bytes []))

false_from : (b : Bool) → (b ≡ true → ⊥) → b ≡ false
false_from true h = absurd (h refl)
false_from false _ = refl

-- a text whose characters begin with the mark begins with its bytes
front : (s : List ℕ) → IsUtf8 s → begins_with_mark (chars s) ≡ true → s ≡ col_mark ++ encodes (drop 5 (chars s))
front s u e =
    let rest = drop 5 (chars s) in
    sym (encodes-chars s u) ∙ ap encodes (sym (take-append-drop 5 (chars s)) ∙ ap (λ (f : List ℕ). f ++ rest) ((bytes_eq-Decides (take 5 (chars s)) col_mark).0 e)) ∙ mark_bytes rest

no_mark : (s : List ℕ) → IsUtf8 s → LacksTextAt col_mark s 0 → begins_with_mark (chars s) ≡ false
no_mark s u lacks = false_from (begins_with_mark (chars s)) (λ e. lacks (encodes (drop 5 (chars s))) (front s u e))

mark : (s rest : List ℕ) → StripsPrefix (FindsTextPrefix col_mark) s rest → chars s ≡ col_mark ++ chars rest
mark s rest (n, found, is, size) = ap chars (found.1 ∙ ap (λ (r : List ℕ). col_mark ++ r) (sym is)) ∙ chars-append col_mark rest mark_utf8 ∙ ap (λ (m : List ℕ). m ++ chars rest) mark_chars

-- what std says of the bytes, said of the characters
pub stripped : (s : List ℕ) (r : Option (Bor (List ℕ))) → IsUtf8 s → MatchOption r (FindsTextPrefix col_mark s None) (λ rest. StripsPrefix (FindsTextPrefix col_mark) s rest.now)
    → MatchOption r (begins_with_mark (chars s) ≡ false) (λ rest. chars s ≡ col_mark ++ chars rest.now)
stripped s None u h = no_mark s u h
stripped s (Some rest) u h = mark s rest.now h

pub past_mark : (column t r : List ℕ) → t ≡ col_mark ++ r → replaced_past column 0 t ≡ column ++ replaced_past column 0 r
past_mark column t r e = ap (replaced_past column 0) e

pub past_char : (column t r : List ℕ) (c : ℕ) → begins_with_mark t ≡ false → t ≡ c ∷ r → replaced_past column 0 t ≡ c ∷ replaced_past column 0 r
past_char column t r c none e = ap (replaced_past column 0) e ∙ ap (λ b. if b then column ++ replaced_past column 4 r else c ∷ replaced_past column 0 r) (ap begins_with_mark (sym e) ∙ none)
