-- The bytes of a name.
use Rattle.std.proofs.Common.{◌≡◌, ℕ, List, ap, sym, ◌∙◌}
use Rattle.std.specs.Str.{IsUtf8, chars, encode_utf8_all}
use Rattle.std.proofs.lemmas.Str.{encodes-chars}

pub spelled_name : (bytes name : List ℕ) → chars bytes ≡ name → IsUtf8 bytes → bytes ≡ encode_utf8_all name
spelled_name bytes name e u = sym (encodes-chars bytes u) ∙ ap encode_utf8_all e

pub ruleset spellings = (spelled_name)
