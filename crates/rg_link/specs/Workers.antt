-- What a session changes of its worker.
use Rattle.std.specs.Prelude.{◌≡◌, ◌≤◌, ℕ, zero, suc, List, [], ◌∷◌, ◌++◌, length, map, Option, Some, slice_get}
use mathlib.Core.List.{IsPrefix}
use Rattle.rg_base.specs.declared.numbers.Moment.{Moment}
use Rattle.rg_cmd.specs.declared.ask.AdminReply.{AdminReply}
use Rattle.rg_cmd.specs.declared.ask.Ask.{Ask}
use Rattle.rg_admin_laws.specs.Logs.{Administration}
use Rattle.rg_turn.specs.declared.rule.Entry.{Entry}
use Rattle.rg_turn.specs.Values.{SeatValue}
use Rattle.rg_publish.specs.Passes.{Seeing, risen}
use Rattle.rg_hook.specs.Enriching.{EnricherState}
use Rattle.rg_hook.specs.Told.{SinkState}
use Rattle.rg_link.specs.Audits.{Decided}

-- the entries that stand at these places of a history
abbrev pub Stand : List (Entry Ask AdminReply) → List ℕ → List (Entry Ask AdminReply) → Type 0
Stand history [] own = own ≡ []
Stand history (k ∷ places) [] = ⊥
Stand history (k ∷ places) (e ∷ own) = (slice_get history k ≡ Some e) × Stand history places own

-- numbers that never fall, from low to high
abbrev pub Rises : ℕ → List ℕ → ℕ → Type 0
Rises low [] high = low ≤ high
Rises low (n ∷ ns) high = (low ≤ n) × Rises n ns high

abbrev pub serials : List Decided → List ℕ
serials decided = map (λ (d : Decided). d.serial) decided

-- a count that has risen so often; it stands still at the last u64
abbrev pub counted : ℕ → ℕ → ℕ
counted zero n = n
counted (suc times) n = counted times (risen n)

-- a seat, a pass, the moments that a clock gave, where it tells them, the sinks, each with its number of failures, and the enrichers
pub record Worker : Type 0 where
  pub seat : SeatValue Ask AdminReply Administration
  pub pass : Seeing
  pub given : Option (List Moment)
  pub sinks : List (SinkState × ℕ)
  pub enrichers : List EnricherState

abbrev pub worker_of : SeatValue Ask AdminReply Administration → Seeing → Option (List Moment) → List (SinkState × ℕ) → List EnricherState → Worker
worker_of seat pass given sinks enrichers = record { seat = seat; pass = pass; given = given; sinks = sinks; enrichers = enrichers }

-- From a to b these moments were given, these entries made and these decisions taken. The seat is of the same turn, and the entries are
-- its own new ones in the order of its calls. The pass is of the same publisher; the serials never fall, from its own at first to its
-- own at last. No word on sinks and enrichers.
pub record Leads (a b : Worker) (moments : List Moment) (own : List (Entry Ask AdminReply)) (decided : List Decided) : Type 0 where
  pub turn : b.seat.turn ≡ a.seat.turn
  pub told : (before : List Moment) → a.given ≡ Some before → b.given ≡ Some (before ++ moments)
  pub made : (places : List ℕ) × (b.seat.calls ≡ a.seat.calls ++ places) × Stand b.seat.history places own
  pub history : IsPrefix a.seat.history b.seat.history
  pub publisher : b.pass.book ≡ a.pass.book
  pub list : IsPrefix a.pass.list b.pass.list
  pub rises : Rises (length a.pass.list) (serials decided) (length b.pass.list)
  pub answered : b.pass.answered ≡ counted (length decided) a.pass.answered
