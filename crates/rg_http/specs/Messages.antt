-- All the messages of a stream of bytes, and how they end.
use Rattle.std.specs.Prelude.{◌≡◌, ◌≢◌, ℕ, zero, suc, List, [], ◌∷◌, MatchBool}
use Rattle.rg_http.specs.declared.message.Message.{Message}
use Rattle.rg_http.specs.declared.message.End.{End}
use Rattle.rg_http.specs.declared.message.End.TheVariants.{Ended, Cut, Bad, Full}
use Rattle.rg_http.specs.Framing.{HasMessage, HasBad, IsUnfinished}

-- how a stream of these bytes ends where no message stands at their front: there is no byte, they break off, or they are refused
abbrev pub Stops : List ℕ → End → Type 0
Stops bytes Ended = bytes ≡ []
Stops bytes Cut = (bytes ≢ []) × IsUnfinished bytes
Stops bytes (Bad status) = HasBad bytes status
Stops bytes Full = ⊥

-- The messages at the front of the bytes, at most so many, up to one that asks to close; and how they end. What follows a message
-- that asks to close isn't looked at, and no byte after the last of so many.
abbrev pub Messages : ℕ → List ℕ → List Message → End → Type 0
Messages zero bytes ms end = (ms ≡ []) × (end ≡ Full)
Messages (suc most) bytes [] end = Stops bytes end
Messages (suc most) bytes (m ∷ ms) end =
    (rest : List ℕ) × HasMessage bytes m rest
    × MatchBool m.close ((ms ≡ []) × (end ≡ Ended)) (Messages most rest ms end)
