-- For proofs: the tokens of what is written.
use Rattle.std.specs.Prelude.{◌≡◌, List, ◌∷◌, ◌++◌}
use Rattle.json.specs.Token.{Token, key as key_token}
use Rattle.json.specs.Tree.{json_tokens}
use Rattle.json.specs.Written.{Written}
use Rattle.serde_json.specs.Data.{Data}
use Rattle.serde_json.specs.Written.{outline}
use Rattle.rg_wire.specs.declared.key.Key.{Key}
use Rattle.rg_wire.specs.Names.{name_of}

unfoldable pub tokens_of : Data → List Token
tokens_of d = json_tokens (outline d)

-- those of a member
abbrev pub member_tokens : Key → Data → List Token
member_tokens key d = key_token (name_of key) ∷ tokens_of d

-- these tokens were added, and nothing else
pub record Adds (old new : Written) (ts : List Token) : Type 0 where
  pub before : new.before ≡ old.before
  pub tokens : new.tokens ≡ old.tokens ++ ts
