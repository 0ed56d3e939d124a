-- What is true of each text and number in memory.
use Rattle.std.proofs.Common.{◌≡◌, ℕ, List, [], ◌∷◌, ◌++◌, sym, ap, subst}
use Rattle.std.specs.Str.{IsUtf8, chars, encode_utf8_all}
use Rattle.std.proofs.lemmas.Str.{chars-nil, encodes-chars}
use Rattle.rg_json.specs.Own.{EachOf}

pub own_text : (t bs : List ℕ) → t ≡ chars bs → IsUtf8 bs → chars (encode_utf8_all t) ≡ t
own_text t bs e u = subst (λ x. chars (encode_utf8_all x) ≡ x) (sym e) (ap chars (encodes-chars bs u))

pub own_nil : chars (encode_utf8_all []) ≡ []
own_nil = chars-nil

pub EachOf-push : {X : Type 0} (own : X → Type 0) (xs : List X) (x : X) → EachOf own xs → own x → EachOf own (xs ++ x ∷ [])
EachOf-push own [] x all here = (here, tt)
EachOf-push own (y ∷ xs) x all here = (all.0, EachOf-push own xs x all.1 here)

pub ruleset owns = (own_text, own_nil, EachOf-push)
