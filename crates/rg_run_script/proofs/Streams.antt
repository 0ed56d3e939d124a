-- What one more call on a source or a sink adds.
use Rattle.std.proofs.Common.{◌≡◌, ◌+◌, ℕ, List, [], ◌++◌, take, drop, Option, Some, None, ap, sym, ◌∙◌, append_assoc, append-nil}
use Rattle.std.proofs.Math.Seq.{take-add}
use Rattle.std.proofs.lemmas.List.{nil_from_length, take-append-drop}
use Rattle.rg_ports.specs.Bytes.{Gave, IsUsedUp, Took}
use Rattle.rg_run_script.specs.Streams.{HasRead, IsAll, Wrote}

-- a write that takes n bytes of the rest
pub wrote_more : (old held new : Option (List ℕ)) (text : List ℕ) (i n : ℕ) → Wrote old held (take i text) → Took held new n (drop i text)
    → Wrote old new (take (i + n) text)
wrote_more None held new text i n wrote took = let t = rw wrote at took in t
wrote_more (Some bytes) held new text i n wrote took =
    let t = rw wrote at took in
    t ∙ ap Some (append_assoc bytes (take i text) (take n (drop i text)) ∙ ap (λ xs. bytes ++ xs) (sym (take-add i n text)))

-- a read that gives n bytes
pub read_more : (all left new : Option (List ℕ)) (got : List ℕ) (n : ℕ) (room : List ℕ) → HasRead all got left → Gave left new n room
    → HasRead all (got ++ take n room) new
read_more None None new got n room has gave = rw gave tt
read_more None (Some rest) new got n room has gave = absurd has
read_more (Some bytes) None new got n room has gave = absurd has
read_more (Some bytes) (Some rest) new got n room has gave =
    rw (gave.2, gave.1) (has ∙ ap (λ xs. got ++ xs) (sym (take-append-drop n rest)) ∙ sym (append_assoc got (take n rest) (drop n rest)))

-- the end
pub read_to_end : (all left : Option (List ℕ)) (got : List ℕ) → HasRead all got left → IsUsedUp left → IsAll all got
read_to_end None left got has used = tt
read_to_end (Some bytes) None got has used = absurd has
read_to_end (Some bytes) (Some rest) got has used =
    let none : rest ≡ [] = nil_from_length rest used in sym (has ∙ rw none (append-nil got))
