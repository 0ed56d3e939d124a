-- For proofs alone: how a service is held, before links are served and under locks.
use Rattle.std.specs.Prelude.{◌≡◌, ℕ, ◌+◌, ◌≤◌, ◌++◌, ◌∷◌, [], ◌-◌, All, Bool, false, true, List, length, map, slice_get, sum_by, take, Some}
use mathlib.Core.List.{IsPrefix}
use Rattle.logbook.specs.Pages.{Book}
use Rattle.rg_turn.specs.Values.{TurnName, TurnValue, new_seat}
use Rattle.rg_turn.specs.History.{state_at}
use Rattle.rg_turn.specs.declared.rule.Entry.{Entry}
use Rattle.rg_facts.specs.declared.facts.Facts.{Facts}
use Rattle.rg_cmd.specs.declared.ask.AdminReply.{AdminReply}
use Rattle.rg_cmd.specs.declared.ask.Ask.{Ask}
use Rattle.rg_admin_laws.specs.Logs.{Administration}
use Rattle.rg_admin_laws.specs.Machine.{Versions, download_ask, same_versions, versions}
use Rattle.rg_admin_laws.specs.Starts.{IsStart}
use Rattle.rg_admin_laws.specs.Steps.{step}
use Rattle.rg_admin_laws.specs.Views.{view}
use Rattle.rg_publish.specs.Passes.{Seeing, new_pass}
use Rattle.rg_publish.specs.Publications.{Published}
use Rattle.rg_publish.specs.declared.history.Publication.{Publication}
use Rattle.rg_session.specs.Right.{AreDownloadedFor, AreRightFor}
use Rattle.rg_serve.specs.Opened.{Opened}
use Rattle.rg_serve.specs.Trails.{Downloads, Follow, IsWork, Seated, Session, Work, pass_of, seat_of, sessions_in}

-- what contracts see of it
abbrev pub held : TurnValue Administration → Seated → List Publication → List Seated → Opened
held turn seat list seats = record { start = turn.start; history = seat.history; calls = length seat.calls; published = list; workers = length seats }

-- the publisher, as its passes began
abbrev pub begun : Published → Published
begun publisher = record { book = publisher.book; list = take 1 publisher.list }

-- the seat beside those of the workers is the turn's, what is published is right for its history and was made of downloads there, and the
-- workers' seats and passes are as they were at the opening
pub record IsHeld (turn : TurnValue Administration) (seat : Seated) (service : List ℕ) (publisher : Published) (seats : List Seated) (passes : List Seeing) : Type 0 where
  pub seated : seat.turn ≡ turn.turn
  pub others : All (λ (s : Seated). s ≡ new_seat turn.turn) seats
  pub all : length seats + 1 ≡ turn.seats
  pub some : 1 ≤ length seats
  pub few : length seats ≤ 64
  pub pairs : length passes ≡ length seats
  pub counted : length seat.calls ≤ length seat.history
  pub starts : IsStart turn.start
  pub serves : service ≡ turn.start.state.plugin
  pub right : AreRightFor turn.start seat.history publisher.list
  pub made : AreDownloadedFor turn.start seat.history publisher.list
  pub first : 1 ≤ length publisher.list
  pub reads : All (λ (p : Seeing). p ≡ new_pass (begun publisher)) passes

-- ---- under locks

-- the sessions of a worker so far, as many as the amount
abbrev pub Trail : TurnName Administration → Published → List ℕ → Seated → Seeing → ℕ → Type 0
Trail turn opening plugin seat pass amount =
    (sessions : List (Session plugin)) × Follow plugin (new_seat turn) (new_pass opening) sessions seat pass × (length sessions ≡ amount)

-- the seat and the pass of a worker, with what its sessions did unless memory was short
pub record IsAtWork (turn : TurnName Administration) (opening : Published) (plugin : List ℕ) (seat : Seated) (pass : Seeing) (parts amount : ℕ) (is_short : Bool) : Type 0 where
  pub seated : seat.turn ≡ turn
  pub reads : pass.book ≡ opening.book
  pub part : parts ≡ 1
  pub trail : is_short ≡ false → Trail turn opening plugin seat pass amount

-- what the workers did whose seats and passes these are
pub record AreWorked (turn : TurnName Administration) (opening : Published) (plugin : List ℕ) (seats : List Seated) (passes : List Seeing) (links : ℕ) : Type 0 where
  pub works : List (Work plugin)
  pub are : All (IsWork turn opening plugin) works
  pub seats_are : map seat_of works ≡ seats
  pub passes_are : map pass_of works ≡ passes
  pub each_link : sum_by sessions_in works ≡ links
  pub seated : All (λ (s : Seated). s.turn ≡ turn) seats
  pub reads : All (λ (p : Seeing). p.book ≡ opening.book) passes

-- the seat is of the named turn, the publisher is the named one, and what is published is right for the seat's history from where the turn
-- opened, and was made of downloads there. Both go on from what is named, and unless memory was short the seat's calls since then are the
-- plugin's downloads
pub record IsFollowing (turn : TurnName Administration) (book : Book) (before : Seated) (published : List Publication) (seat : Seated) (service : List ℕ) (publisher : Published) (is_short : Bool) : Type 0 where
  pub seated : seat.turn ≡ turn
  pub published_by : publisher.book ≡ book
  pub serves : (x : Administration) → turn.start ≡ Some x → service ≡ x.state.plugin
  pub right : (x : Administration) → turn.start ≡ Some x → AreRightFor x seat.history publisher.list
  pub made : (x : Administration) → turn.start ≡ Some x → AreDownloadedFor x seat.history publisher.list
  pub begins : IsPrefix before.history seat.history
  pub more : IsPrefix published publisher.list
  pub downloads : is_short ≡ false → Downloads seat.history service before seat

-- the seat's last call, after n entries, was the plugin's download, and the newest publication has the versions of what the plugin saw then
pub record HasLast (start : Administration) (history : List (Entry Ask AdminReply)) (list : List Publication) (n : ℕ) : Type 0 where
  pub before : List (Entry Ask AdminReply)
  pub last : Entry Ask AdminReply
  pub is : history ≡ before ++ last ∷ []
  pub at : length before ≡ n
  pub from : Versions
  pub ask : last.ask ≡ download_ask start.state.plugin from
  pub newest : Publication
  pub newest_is : slice_get list (length list - 1) ≡ Some newest
  pub present : Facts
  pub viewed : view (state_at step start history n) start.state.plugin ≡ Some present
  pub current : same_versions (versions newest.facts) (versions present) ≡ true
