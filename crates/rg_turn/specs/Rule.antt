-- The rule of the table. Word 0 is the ticket to be drawn next, word 1 the ticket that is served, and the one slot has the machine.
-- A view is spent where its weight is 0: its seat was joined to another, or only remembers the history.
use Rattle.std.specs.Prelude.{◌≡◌, ◌⊎◌, ℕ, ◌^◌, ◌<◌, ◌≤◌, true, false, List, [], ◌∷◌, length, Some}
use mathlib.Core.Option.{some, none}
use mathlib.Core.Option as maybe
use mathlib.Core.List.{IsPrefix}
use lib.ListN.{get_elem?}
use Rattle.atomic_table.specs.Table.{State}
use Rattle.rg_turn.specs.declared.rule.Entry.{Entry}
use Rattle.rg_turn.specs.declared.rule.SeatView.{SeatView}
use Rattle.rg_turn.specs.declared.rule.Slot.{Slot}
use Rattle.rg_turn.specs.Counting.{times, once_below, total}
use Rattle.rg_turn.specs.History.{state_after, IsLegal}

-- each of these lists begins the history
abbrev pub AllBegin : {A R : Type 0} → List (List (Entry A R)) → List (Entry A R) → Type 0
AllBegin {A} {R} olds history = (k : ℕ) (old : List (Entry A R)) → get_elem? olds k ≡ some old → IsPrefix old history

module _ {A R X : Type 0} where
  -- some view has this ticket
  abbrev pub TicketStands : List (SeatView A R X) → ℕ → Type 0
  TicketStands views t = (j : ℕ) × (v : SeatView A R X) × (get_elem? views j ≡ some v) × (v.has_ticket ≡ true) × (v.ticket ≡ t)

  -- some view's ticket is served, and its seat has looked and not yet passed on
  abbrev pub SomeServed : List (SeatView A R X) → Type 0
  SomeServed views = (j : ℕ) × (v : SeatView A R X) × (get_elem? views j ≡ some v) × (v.is_served ≡ true)

  abbrev pub NoneServed : List (SeatView A R X) → Type 0
  NoneServed views = (j : ℕ) (v : SeatView A R X) → get_elem? views j ≡ some v → v.is_served ≡ false

  -- what the rule says of one view
  pub record ViewHolds (start : X) (seats : ℕ) (history : List (Entry A R)) (serving ticket : ℕ) (v : SeatView A R X) : Type 0 where
    -- a view that isn't spent names the opening state and the number of seats
    pub names_opening : 0 < v.weight → (v.start ≡ Some start) × (v.seats ≡ seats)
    -- a view that is spent has no ticket and no calls
    pub spent : v.weight ≡ 0 → (v.has_ticket ≡ false) × (v.calls ≡ [])
    pub history_begins : IsPrefix v.history history
    pub olds_begin : AllBegin v.olds history
    -- its calls are entries of its own history
    pub calls_within : (p : ℕ) → 0 < times p v.calls → p < length v.history
    -- no ticket is out but those from serving up to ticket
    pub ticket_within : v.has_ticket ≡ true → (serving ≤ v.ticket) × (v.ticket < ticket)
    -- from its look until it passes on it has the ticket that is served, and the whole history
    pub served : v.is_served ≡ true → (v.has_ticket ≡ true) × (v.ticket ≡ serving) × (v.history ≡ history)

module _ {M A R X : Type 0} (state : M → X) (transition : X → A → X × R) where
  -- the slot has the machine, in the state after this history, and the number of entries
  abbrev pub IsAfter : X → List (Entry A R) → Slot M → Type 0
  IsAfter start history d = (m : M) × (d.machine ≡ Some m) × (state m ≡ state_after transition start history) × (d.entries ≡ length history)

  module _ (start : X) (seats : ℕ) where
    pub record RuleHolds (s : State (Slot M) (SeatView A R X)) : Type 0 where
      pub history : List (Entry A R)
      pub ticket : ℕ
      pub serving : ℕ
      pub slot : maybe.Option (Slot M)
      pub words_are : s.words ≡ ticket ∷ serving ∷ []
      pub slots_are : s.homes ≡ slot ∷ []
      pub serving_at_most_ticket : serving ≤ ticket
      pub ticket_at_most_bound : ticket ≤ 2 ^ 62
      pub entries_at_most_serving : length history ≤ serving
      pub legal : IsLegal transition start history
      pub each_view : (j : ℕ) (v : SeatView A R X) → get_elem? s.views j ≡ some v → ViewHolds start seats history serving ticket v
      -- each ticket from serving up to ticket stands in one view
      pub ticket_stands : (t : ℕ) → serving ≤ t → t < ticket → TicketStands s.views t
      pub ticket_once : (i j : ℕ) (v w : SeatView A R X) → get_elem? s.views i ≡ some v → get_elem? s.views j ≡ some w → v.has_ticket ≡ true → w.has_ticket ≡ true → v.ticket ≡ w.ticket → i ≡ j
      -- the machine is in its slot, after the history, but from a view's look until it passes on. What a seat puts back is its own until then
      pub machine : ((d : Slot M) × (slot ≡ some d) × IsAfter start history d × NoneServed s.views) ⊎ ((slot ≡ none) × SomeServed s.views)
      pub weights_sum : total (λ v. v.weight) s.views ≡ seats
      -- each entry is the call of exactly one view, and there are no other calls
      pub entry_once : (p : ℕ) → total (λ v. times p v.calls) s.views ≡ once_below p (length history)
