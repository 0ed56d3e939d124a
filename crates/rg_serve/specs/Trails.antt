-- What the workers of a service did, and what its refresher asked. To be read after Opened; then Served.
use Rattle.std.specs.Prelude.{◌≡◌, ◌<◌, ◌⊎◌, ◌+◌, ◌-◌, ◌^◌, ℕ, min, sum_by, All, List, [], ◌∷◌, ◌++◌, length, map}
use mathlib.Core.Logic.{inl, inr}
use Rattle.rg_http.specs.declared.message.End.{End}
use Rattle.rg_turn.specs.Counting.{once_below, times}
use Rattle.rg_turn.specs.Values.{SeatValue, TurnName, calls_at, new_seat}
use Rattle.rg_turn.specs.declared.rule.Entry.{Entry}
use Rattle.rg_cmd.specs.declared.ask.AdminReply.{AdminReply}
use Rattle.rg_cmd.specs.declared.ask.Ask.{Ask}
use Rattle.rg_admin_laws.specs.Logs.{Administration}
use Rattle.rg_admin_laws.specs.Machine.{Versions, download_ask}
use Rattle.rg_publish.specs.Passes.{Seeing, new_pass}
use Rattle.rg_publish.specs.Publications.{Published}
use Rattle.rg_publish.specs.declared.history.Publication.{Publication}
use Rattle.rg_link.specs.Audits.{Decided, IsDecided}
use Rattle.rg_link.specs.Sessions.{Broken, Served, Wire}
use Rattle.rg_link.specs.Workers.{Rises, Stand, Worker, serials}

abbrev pub Seated : Type 0
Seated = SeatValue Ask AdminReply Administration

-- ---- one session

-- it ended, or it broke off since the link failed
abbrev pub IsOver : List ℕ → Worker → Worker → Wire → Wire → ℕ → ℕ → Type 0
IsOver plugin a b met left before after =
    ((end : End) × (count : ℕ) × Served plugin a b met left end count × (after ≡ before)) ⊎ (Broken plugin a b met left × (before < after))

-- the session of one link: the worker, the link's bytes, and how often the link had failed, before and after
pub record Session (plugin : List ℕ) : Type 0 where
  pub before : Worker
  pub after : Worker
  pub met : Wire
  pub left : Wire
  pub faults : ℕ
  pub more_faults : ℕ
  pub over : IsOver plugin before after met left faults more_faults

-- a session leads from this seat and pass to those
abbrev pub IsSession : List ℕ → Seated → Seeing → Seated → Seeing → Type 0
IsSession plugin seat pass seat' pass' =
    (s : Session plugin) × (s.before.seat ≡ seat) × (s.before.pass ≡ pass) × (s.after.seat ≡ seat') × (s.after.pass ≡ pass')

-- the entries and the decisions of a session that is over
abbrev pub own_in : (plugin : List ℕ) (a b : Worker) (met left : Wire) (before after : ℕ) → IsOver plugin a b met left before after → List (Entry Ask AdminReply)
own_in plugin a b met left before after (inl served) = served.2.own
own_in plugin a b met left before after (inr broken) = broken.0.own

abbrev pub decided_in : (plugin : List ℕ) (a b : Worker) (met left : Wire) (before after : ℕ) → IsOver plugin a b met left before after → List Decided
decided_in plugin a b met left before after (inl served) = served.2.decided
decided_in plugin a b met left before after (inr broken) = broken.0.decided

abbrev pub own_of : {plugin : List ℕ} → Session plugin → List (Entry Ask AdminReply)
own_of {plugin} s = own_in plugin s.before s.after s.met s.left s.faults s.more_faults s.over

abbrev pub decided_of : {plugin : List ℕ} → Session plugin → List Decided
decided_of {plugin} s = decided_in plugin s.before s.after s.met s.left s.faults s.more_faults s.over

-- ---- the sessions of one worker

-- all their entries, and all their decisions, in order
abbrev pub entries_of : {plugin : List ℕ} → List (Session plugin) → List (Entry Ask AdminReply)
entries_of [] = []
entries_of (s ∷ rest) = own_of s ++ entries_of rest

abbrev pub decisions_of : {plugin : List ℕ} → List (Session plugin) → List Decided
decisions_of [] = []
decisions_of (s ∷ rest) = decided_of s ++ decisions_of rest

-- each session begins with the seat and the pass that the one before left
abbrev pub Follow : (plugin : List ℕ) → Seated → Seeing → List (Session plugin) → Seated → Seeing → Type 0
Follow plugin seat pass [] last_seat last_pass = (last_seat ≡ seat) × (last_pass ≡ pass)
Follow plugin seat pass (s ∷ rest) last_seat last_pass =
    (s.before.seat ≡ seat) × (s.before.pass ≡ pass) × Follow plugin s.after.seat s.after.pass rest last_seat last_pass

-- the sessions, and the seat and the pass that they left
pub record Work (plugin : List ℕ) : Type 0 where
  pub sessions : List (Session plugin)
  pub seat : Seated
  pub pass : Seeing

-- the first began with a new seat of the turn, and a pass that had seen these publications
abbrev pub IsWork : TurnName Administration → Published → (plugin : List ℕ) → Work plugin → Type 0
IsWork turn opening plugin w = Follow plugin (new_seat turn) (new_pass opening) w.sessions w.seat w.pass

-- ---- all workers

abbrev pub seat_of : {plugin : List ℕ} → Work plugin → Seated
seat_of w = w.seat

abbrev pub pass_of : {plugin : List ℕ} → Work plugin → Seeing
pass_of w = w.pass

abbrev pub sessions_in : {plugin : List ℕ} → Work plugin → ℕ
sessions_in w = length w.sessions

abbrev pub entries_in : {plugin : List ℕ} → Work plugin → ℕ
entries_in w = length (entries_of w.sessions)

abbrev pub decisions_in : {plugin : List ℕ} → Work plugin → ℕ
decisions_in w = length (decisions_of w.sessions)

-- the calls of the refresher's seat since then are downloads of the plugin, from whichever versions
abbrev pub Downloads : List (Entry Ask AdminReply) → List ℕ → Seated → Seated → Type 0
Downloads past plugin before after =
    (places : List ℕ) × (own : List (Entry Ask AdminReply)) × (after.calls ≡ before.calls ++ places) × Stand past places own
    × All (λ (e : Entry Ask AdminReply). (v : Versions) × (e.ask ≡ download_ask plugin v)) own

-- so many workers served so many links, each link in one session
pub record AreServed (turn : TurnName Administration) (opening : Published) (plugin : List ℕ) (before : Seated) (workers links : ℕ) (past : List (Entry Ask AdminReply)) (list : List Publication) (decisions : ℕ) : Type 0 where
  pub works : List (Work plugin)
  pub number : length works ≡ workers
  pub are : All (IsWork turn opening plugin) works
  pub each_link : sum_by sessions_in works ≡ links
  -- each entry of the past is one call of a worker's seat, or of the refresher's
  pub refresher : Seated
  pub downloads : Downloads past plugin before refresher
  pub each_entry : (p : ℕ) → calls_at p (map seat_of works) + times p refresher.calls ≡ once_below p (length past)
  pub entries : length past ≡ sum_by entries_in works + length refresher.calls
  -- the entries of a worker's sessions stand in the past, in order, where its seat's calls do
  pub stand : All (λ (w : Work plugin). Stand past w.seat.calls (entries_of w.sessions)) works
  -- each decision is by the publication of its serial; the serials of a worker never fall
  pub decided : All (λ (w : Work plugin). All (IsDecided list) (decisions_of w.sessions)) works
  pub rises : All (λ (w : Work plugin). Rises (length opening.list) (serials (decisions_of w.sessions)) (length list)) works
  pub sum : decisions ≡ min (sum_by decisions_in works) (2 ^ 64 - 1)
