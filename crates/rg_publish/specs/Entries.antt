-- For proofs alone: what an entry finds, beside what the reader knows then and what the pass keeps.
use Rattle.std.specs.Prelude.{◌≡◌, ℕ, Option, Some}
use Rattle.logbook.specs.declared.tokens.Seen.{Seen}
use Rattle.rg_publish.specs.declared.history.Numbering.{Numbering}
use Rattle.rg_publish.specs.declared.history.Publication.{Publication}
use Rattle.rg_publish.specs.declared.pass.Found.{Found}
use Rattle.rg_publish.specs.declared.pass.Found.TheVariants.{Nothing, Same, Later}
use Rattle.rg_publish.specs.Knowing.{Begins, KnownBegins}

-- a later publication goes on from what is kept
abbrev pub GoesOn : Seen Publication ℕ Numbering → Found → Type 0
GoesOn kept Nothing = Unit {0}
GoesOn kept Same = Unit {0}
GoesOn kept (Later s) = Begins kept s.known

-- what is known is what was found: it is later than what is kept, or nothing later is known
abbrev pub IsNewest : Option (Seen Publication ℕ Numbering) → Seen Publication ℕ Numbering → Found → Type 0
IsNewest known kept Nothing = Unit {0}
IsNewest known kept Same = KnownBegins known kept
IsNewest known kept (Later s) = known ≡ Some s.known
