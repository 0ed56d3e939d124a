-- Where nothing comes of a link, nothing is written.
use Rattle.std.proofs.Common.{◌≡◌, inl, ℕ, List, [], Option, refl, sym, subst}
use Rattle.rg_http.specs.Answers.{Wrote}
use Rattle.rg_http.proofs.Written.{wrote_none}
use Rattle.rg_link.specs.Coming.{BreaksOff}
use Rattle.rg_link.proofs.Steps.{begins_refl}

pub nothing_written : (before after : Option (List ℕ)) → after ≡ before → Wrote before after []
nothing_written before after e = subst (λ k. Wrote before k []) (sym e) (wrote_none before)

-- there was no bad place, and nothing was written
pub off_at_once : (bytes : List ℕ) (before after : Option (List ℕ)) → after ≡ before → BreaksOff bytes before after
off_at_once bytes before after e = ([], [], inl refl, nothing_written before after e, begins_refl [])
