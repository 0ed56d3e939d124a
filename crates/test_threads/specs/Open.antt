-- For proofs alone: how a service is held that is open.
use Rattle.std.specs.Prelude.{◌≡◌, ℕ, List}
use Rattle.rg_turn.specs.Values.{SeatValue, TurnValue}
use Rattle.rg_cmd.specs.declared.ask.AdminReply.{AdminReply}
use Rattle.rg_cmd.specs.declared.ask.Ask.{Ask}
use Rattle.rg_admin_laws.specs.Logs.{Administration}
use Rattle.rg_admin_laws.specs.Starts.{IsStart}
use Rattle.rg_publish.specs.Publications.{Published}
use Rattle.rg_session.specs.Right.{AreRightFor}

abbrev pub Seated : Type 0
Seated = SeatValue Ask AdminReply Administration

-- both seats are the turn's and are all that it has, and what is published is right for the first one's history
pub record IsOpen (turn : TurnValue Administration) (seat other : Seated) (service : List ℕ) (publisher : Published) : Type 0 where
  pub seated : seat.turn ≡ turn.turn
  pub other_seated : other.turn ≡ turn.turn
  pub all : turn.seats ≡ 2
  pub starts : IsStart turn.start
  pub serves : service ≡ turn.start.state.plugin
  pub right : AreRightFor turn.start seat.history publisher.list
