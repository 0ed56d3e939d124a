-- What is true of seats between calls, where they are made and where they are joined.
use Rattle.std.specs.Prelude.{◌≡◌, ◌⊎◌, ℕ, All, ◌+◌, ◌≤◌, ◌^◌, false, List, [], length, Some}
use mathlib.Core.Option.{some}
use lib.ListN.{get_elem?}
use Rattle.atomic_table.specs.Table.{Me}
use Rattle.atomic_table.specs.declared.shared.Seat.{Seat}
use Rattle.rg_turn.specs.declared.rule.Entry.{Entry}
use Rattle.rg_turn.specs.declared.rule.SeatView.{SeatView}
use Rattle.rg_turn.specs.declared.rule.Slot.{Slot}
use Rattle.rg_turn.specs.Counting.{times, once_below, positions}
use Rattle.rg_turn.specs.History.{IsLegal}
use Rattle.rg_turn.specs.Rule.{AllBegin, IsAfter}
use Rattle.rg_turn.specs.Values.{SeatValue, EachOnce, calls_at}

module _ {M A R X : Type 0} where
  abbrev pub seat_value : Seat (Slot M) (SeatView A R X) → SeatValue A R X
  seat_value p = record { turn = record { table = p.table_id; seats = p.me.0.seats; start = p.me.0.start }; history = p.me.0.history; calls = p.me.0.calls }

  -- it holds no slot and no ticket, and its history is legal
  abbrev pub IsIdle : (X → A → X × R) → Seat (Slot M) (SeatView A R X) → Type 0
  IsIdle transition p = (p.me.1 ≡ []) × (p.me.0.has_ticket ≡ false) × (p.me.0.is_served ≡ false) × (p.me.0.weight ≡ 1) × (p.me.0.olds ≡ [])
      × ((x : X) × (p.me.0.start ≡ Some x) × IsLegal transition x p.me.0.history)

  -- it made no step yet
  abbrev pub IsUnused : Me (Slot M) (SeatView A R X) → Type 0
  IsUnused me = (me.1 ≡ []) × (me.0.has_ticket ≡ false) × (me.0.is_served ≡ false) × (me.0.weight ≡ 1) × (me.0.olds ≡ []) × (me.0.calls ≡ []) × (me.0.history ≡ []) × ((x : X) × (me.0.start ≡ Some x))

-- in a turn of one seat the history is its calls, in order
abbrev pub IsAlone : {A R X : Type 0} → SeatView A R X → Type 0
IsAlone v = v.seats ≡ 1 → v.calls ≡ positions (length v.history)

-- the seat's calls stand each once in its history, which is short
abbrev pub IsCounted : {A R X : Type 0} → SeatView A R X → Type 0
IsCounted v = EachOnce v.calls v.history × (length v.calls ≤ length v.history) × (length v.history ≤ 2 ^ 62)

-- the view knows that h begins the history
abbrev pub IsKnown : {A R X : Type 0} → SeatView A R X → List (Entry A R) → Type 0
IsKnown v h = (h ≡ v.history) ⊎ ((k : ℕ) × (get_elem? v.olds k ≡ some h))

-- q is p after it took over these seats
abbrev pub HasJoined : {M A R X : Type 0} → Seat (Slot M) (SeatView A R X) → List (SeatValue A R X) → Seat (Slot M) (SeatView A R X) → Type 0
HasJoined {M} {A} {R} {X} p seats q = (q.table_id ≡ p.table_id) × (q.me.1 ≡ []) × (q.me.0.has_ticket ≡ false) × (q.me.0.is_served ≡ false) × (q.me.0.weight ≡ p.me.0.weight + length seats)
    × IsKnown q.me.0 p.me.0.history × All (λ (s : SeatValue A R X). IsKnown q.me.0 s.history) seats
    × ((n : ℕ) → times n q.me.0.calls ≡ times n p.me.0.calls + calls_at n seats)

-- what a view that has all the weight knows at the end, and what the slot has
abbrev pub HasEnded : {M A R X : Type 0} → (M → X) → (X → A → X × R) → X → SeatView A R X → Slot M → Type 0
HasEnded {A = A} {R = R} state transition start v d = IsAfter state transition start v.history d × IsLegal transition start v.history × (v.start ≡ Some start) × AllBegin v.olds v.history
    × ((p : ℕ) → times p v.calls ≡ once_below p (length v.history))
