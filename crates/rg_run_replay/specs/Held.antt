-- For proofs: how an administration that is running is held.
use Rattle.std.specs.Prelude.{◌≡◌, ℕ, List}
use Rattle.rg_turn.specs.History.{state_after}
use Rattle.rg_turn.specs.Values.{SeatValue, TurnValue}
use Rattle.rg_cmd.specs.declared.ask.AdminReply.{AdminReply}
use Rattle.rg_cmd.specs.declared.ask.Ask.{Ask}
use Rattle.rg_admin_laws.specs.Logs.{Administration}
use Rattle.rg_admin_laws.specs.Starts.{IsStart}
use Rattle.rg_admin_laws.specs.Steps.{step}
use Rattle.rg_publish.specs.Passes.{Seeing}
use Rattle.rg_publish.specs.Publications.{Published}
use Rattle.rg_publish.specs.declared.history.Publication.{Publication}
use Rattle.rg_run_replay.specs.Running.{Running, running}
use Rattle.rg_session.specs.Right.{AreRightFor}

-- the administration is the one after the seat's history
abbrev pub held : TurnValue Administration → SeatValue Ask AdminReply Administration → List ℕ → List Publication → Running
held turn seat service list = running (state_after step turn.start seat.history) service list

-- the turn has this seat alone, what is published is right for its history, and the pass is the publisher's
pub record IsHeld (turn : TurnValue Administration) (seat : SeatValue Ask AdminReply Administration) (service : List ℕ) (publisher : Published) (pass : Seeing) : Type 0 where
  pub seated : seat.turn ≡ turn.turn
  pub alone : seat.turn.seats ≡ 1
  pub starts : IsStart turn.start
  pub serves : service ≡ turn.start.state.plugin
  pub right : AreRightFor turn.start seat.history publisher.list
  pub reads : pass.book ≡ publisher.book
