-- What was written, piece by piece.
use Rattle.std.proofs.Common.{◌≡◌, ℕ, List, [], ◌++◌, take, Option, Some, sym, ap, ◌∙◌, subst, append_assoc, append-nil}
use Rattle.rg_ports.specs.Bytes.{Took}
use Rattle.rg_http.specs.Answers.{Wrote}

pub wrote_none : (before : Option (List ℕ)) → Wrote before before []
wrote_none before = λ out e. e ∙ ap Some (sym (append-nil out))

pub wrote_more : (before mid after : Option (List ℕ)) (a b : List ℕ) → Wrote before mid a → Wrote mid after b → Wrote before after (a ++ b)
wrote_more before mid after a b x y = λ out e. y (out ++ a) (x out e) ∙ ap Some (append_assoc out a b)

pub wrote_took : (mid after : Option (List ℕ)) (n : ℕ) (piece : List ℕ) → Took mid after n piece → Wrote mid after (take n piece)
wrote_took mid after n piece x = λ out e. subst (λ k. Took k after n piece) e x
