-- What comes next of a link. Only proofs and the functions below the session need it.
use Rattle.std.specs.Prelude.{◌≡◌, ℕ, List, [], Option, true}
use mathlib.Core.List.{IsPrefix}
use Rattle.rg_http.specs.declared.message.Message.{Message}
use Rattle.rg_http.specs.Answers.{Framed, Wrote}
use Rattle.rg_http.specs.Framing.{HasMessage}
use Rattle.rg_http.specs.Messages.{Stops}
use Rattle.rg_link.specs.declared.coming.Coming.{Coming}
use Rattle.rg_link.specs.declared.coming.Coming.TheVariants as coming
use Rattle.rg_link.specs.Answers.{end_text}
use Rattle.rg_link.specs.Sessions.{IsCause, IsTail, Wire}

-- what comes of the bytes read so far: a message, behind which the framer keeps the rest, or an end, which has been answered
abbrev pub Comes : List ℕ → Wire → Wire → Framed → Coming → Type 0
Comes bytes old new left (coming.Message m) = HasMessage bytes m left.bytes × (left.live ≡ true) × (new.held ≡ old.held)
Comes bytes old new left (coming.Over end) = Stops bytes end × ((ms : List Message) → IsCause end new.ended ms) × Wrote old.held new.held (end_text end)

-- what a fault leaves: of the answer to a bad place there a part may have been written
abbrev pub BreaksOff : List ℕ → Option (List ℕ) → Option (List ℕ) → Type 0
BreaksOff bytes before after = (tail : List ℕ) × (part : List ℕ) × IsTail [] bytes tail × Wrote before after part × IsPrefix part tail
