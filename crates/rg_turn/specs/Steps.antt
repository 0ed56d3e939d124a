-- What each step on the words tells the seat that makes it.
use Rattle.std.specs.Prelude.{◌≡◌, ◌≢◌, ℕ, ◌+◌, ◌^◌, ◌<◌, List, [], ◌∷◌, length, Option, Some, None}
use mathlib.Core.List.{IsPrefix}
use Rattle.atomic_table.specs.Table.{Me, Step}
use Rattle.std.specs.declared.snapshot.Snapshot.{Snapshot}
use Rattle.rg_turn.specs.declared.rule.Entry.{Entry}
use Rattle.rg_turn.specs.declared.rule.SeatView.{SeatView}
use Rattle.rg_turn.specs.declared.rule.Slot.{Slot}
use Rattle.rg_turn.specs.History.{state_after, IsLegal}
use Rattle.rg_turn.specs.View.{with_ticket, served, passed}
use Rattle.rg_turn.specs.Rule.{AllBegin, IsAfter}

-- the call that two snapshots remember
abbrev pub call_of : {A R : Type 0} → Option (Snapshot A × Snapshot R) → Option (A × R)
call_of None = None
call_of (Some e) = Some (e.0.value, e.1.value)

module _ {M A R X : Type 0} (state : M → X) (transition : X → A → X × R) where
  -- from the state x after k entries, the state y after n, by the entry if there is one
  abbrev pub IsAnswered : X → ℕ → Option (A × R) → X → ℕ → Type 0
  IsAnswered x k None y n = (y ≡ x) × (n ≡ k)
  IsAnswered x k (Some e) y n = (transition x e.0 ≡ (y, e.1)) × (n ≡ k + 1)

  -- the slot's content, as the seat gives it back
  abbrev pub IsReturned : X → List (Entry A R) → Option (A × R) → Slot M → Type 0
  IsReturned start history added d = (m : M) × (d.machine ≡ Some m) × IsAnswered (state_after transition start history) (length history) added (state m) d.entries

  -- the seat's ticket is served: it knows the history so far, which its own and its olds begin, and holds the slot.
  -- Where it has all the weight, it knew the history already
  abbrev pub IsServed : Me (Slot M) (SeatView A R X) → Me (Slot M) (SeatView A R X) → Type 0
  IsServed me me' = (x : X) × (history : List (Entry A R)) × (d : Slot M) × (me.0.start ≡ Some x) × (me' ≡ (served history me.0, (0, d) ∷ [])) × IsAfter state transition x history d
      × IsLegal transition x history × IsPrefix me.0.history history × (length history < 2 ^ 62) × (me.0.weight ≡ me.0.seats → history ≡ me.0.history) × AllBegin me.0.olds history

  -- the seat that is served also learns the state in which the machine opened
  abbrev pub Looked : Option X → Step (Slot M) → Me (Slot M) (SeatView A R X) → ℕ → Me (Slot M) (SeatView A R X) → Type 0
  Looked opening st me found me' = (found ≢ me.0.ticket → me' ≡ me) × (found ≡ me.0.ticket → IsServed me me' × (me.0.start ≡ opening))

module _ {M A R X : Type 0} where
  abbrev pub Drawn : Step (Slot M) → Me (Slot M) (SeatView A R X) → ℕ → Me (Slot M) (SeatView A R X) → Type 0
  Drawn st me found me' = (found ≡ st.first → me' ≡ (with_ticket found me.0, me.1)) × (found ≢ st.first → me' ≡ me)

  abbrev pub PassedOn : Option (A × R) → Step (Slot M) → Me (Slot M) (SeatView A R X) → ℕ → Me (Slot M) (SeatView A R X) → Type 0
  PassedOn added st me found me' = me' ≡ (passed added me.0, [])
