-- How contracts see a turn, a seat and a past.
use Rattle.std.specs.Prelude.{◌≡◌, ℕ, ◌≤◌, List, [], ◌∷◌, ◌++◌, length, Option}
use mathlib.Core.List.{IsPrefix}
use Rattle.atomic_table.specs.Seated.{TableId}
use Rattle.rg_turn.specs.declared.rule.Entry.{Entry}
use Rattle.rg_turn.specs.Counting.{times, once_below, total}
use Rattle.rg_turn.specs.View.{entry}

-- which turn it is: its table, the number of its seats, and the state in which its machine opened
pub record TurnName (X : Type 0) : Type 0 where
  pub table : TableId
  pub seats : ℕ
  pub start : Option X

-- the turn's name, and its parts by themselves
pub record TurnValue (X : Type 0) : Type 0 where
  pub turn : TurnName X
  pub seats : ℕ
  pub start : X

-- the name of the seat's turn, the history that it knows, and the positions of its own calls there
pub record SeatValue (A R X : Type 0) : Type 0 where
  pub turn : TurnName X
  pub history : List (Entry A R)
  pub calls : List ℕ

-- the whole history of a turn, and the state in which its machine opened
pub record PastValue (A R X : Type 0) : Type 0 where
  pub start : Option X
  pub history : List (Entry A R)

-- a seat before its first call
abbrev pub new_seat : {A R X : Type 0} → TurnName X → SeatValue A R X
new_seat turn = record { turn = turn; history = []; calls = [] }

-- the history ends with this call, which is one more of the seat's own. In a turn of one seat nothing stands between
abbrev pub IsCalled : {A R X : Type 0} → SeatValue A R X → A → R → SeatValue A R X → Type 0
IsCalled {A} {R} before ask reply after = (h : List (Entry A R)) × (after.history ≡ h ++ entry ask reply ∷ []) × IsPrefix before.history h × (after.calls ≡ before.calls ++ length h ∷ []) × (before.turn.seats ≡ 1 → h ≡ before.history)

-- each call stands in the history, and no two at one position
abbrev pub EachOnce : {A R : Type 0} → List ℕ → List (Entry A R) → Type 0
EachOnce calls history = (p : ℕ) → times p calls ≤ once_below p (length history)

-- how many of these seats' calls the entry at p is
abbrev pub calls_at : {A R X : Type 0} → ℕ → List (SeatValue A R X) → ℕ
calls_at p seats = total (λ s. times p s.calls) seats
