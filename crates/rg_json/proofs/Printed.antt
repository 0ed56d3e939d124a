-- The text that a string holds, and what is read from it.
use Rattle.std.proofs.Common.{◌≡◌, ℕ, List, Some, String, Global, string_bytes, ap, ◌∙◌, subst}
use Rattle.std.specs.Str.{IsUtf8, chars, encode_utf8_all}
use Rattle.std.proofs.lemmas.Str.{encodes-chars, is_utf8-from_IsUtf8, IsUtf8-string_bytes}
use Rattle.serde_json.specs.Data.{Data}
use Rattle.serde_json.specs.Read.{read}
use Rattle.rg_json.specs.Texts.{data_of}

pub spelled : (t : List ℕ) (s : String Global) → t ≡ chars (string_bytes s) → encode_utf8_all t ≡ string_bytes s
spelled t s e = ap encode_utf8_all e ∙ encodes-chars (string_bytes s) (IsUtf8-string_bytes s)

of_utf8 : (bytes : List ℕ) (d : Data) → IsUtf8 bytes → read bytes ≡ Some d → data_of bytes ≡ Some d
unfolding data_of
of_utf8 bytes d u e = rw (is_utf8-from_IsUtf8 bytes u) e

pub reads_string : (s : String Global) (text : List ℕ) (d : Data) → string_bytes s ≡ text → read (string_bytes s) ≡ Some d → data_of text ≡ Some d
reads_string s text d same e = subst (λ t. data_of t ≡ Some d) same (of_utf8 (string_bytes s) d (IsUtf8-string_bytes s) e)

pub ruleset printed = (spelled, reads_string)
