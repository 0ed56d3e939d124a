-- Hashes of bytes that are taken one after another.
use Rattle.std.proofs.Common.{◌≡◌, ◌∙◌, ℕ, List, [], ◌∷◌, ap, sym, fold}
use Rattle.std.proofs.lemmas.List.Sums.{fold-append}
use Rattle.rg_metrics.specs.Epoch.{first_hash, fnv_step, hash_of}

-- the byte 0 behind a line
pub line_end : (line : List ℕ) → fold fnv_step (fold fnv_step first_hash line) (0 ∷ []) ≡ hash_of line []
line_end line = sym (fold-append fnv_step first_hash line (0 ∷ []))

-- a record behind a line that had none
pub first_more : (line first : List ℕ) (hash : ℕ) → hash ≡ hash_of line [] → fold fnv_step hash first ≡ hash_of line first
first_more line first hash is =
    ap (λ h. fold fnv_step h first) (is ∙ fold-append fnv_step first_hash line (0 ∷ [])) ∙ sym (fold-append fnv_step first_hash line (0 ∷ first))
