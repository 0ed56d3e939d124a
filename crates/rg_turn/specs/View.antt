-- What a seat knows, and how each kind of step changes it.
use Rattle.std.specs.Prelude.{ℕ, ◌+◌, ◌-◌, true, false, if◌then◌else◌, nat_lt, List, [], ◌∷◌, ◌++◌, length, Option, Some, None}
use Rattle.rg_turn.specs.declared.rule.Entry.{Entry}
use Rattle.rg_turn.specs.declared.rule.SeatView.{SeatView}

abbrev pub entry : {A R : Type 0} → A → R → Entry A R
entry ask reply = record { ask = ask; reply = reply }

-- the longer of two lists
abbrev pub longer : {E : Type 0} → List E → List E → List E
longer xs ys = if nat_lt (length xs) (length ys) then ys else xs

module _ {A R X : Type 0} where
  -- a seat of a turn of n seats that opens in the state x, before its first step, with the weight k
  abbrev pub opening_view : X → ℕ → ℕ → SeatView A R X
  opening_view x n k = record { start = Some x; seats = n; weight = k; has_ticket = false; ticket = 0; is_served = false; history = []; olds = []; calls = [] }

  -- draw
  abbrev pub with_ticket : ℕ → SeatView A R X → SeatView A R X
  with_ticket t v = record v { has_ticket = true; ticket = t }

  -- look, where the seat's ticket is served
  abbrev pub served : List (Entry A R) → SeatView A R X → SeatView A R X
  served history v = record v { is_served = true; history = history }

  -- pass on without an entry
  abbrev pub passed_without : SeatView A R X → SeatView A R X
  passed_without v = record v { has_ticket = false; is_served = false }

  -- pass on with an entry, which is one more of the seat's calls
  abbrev pub passed_with : A → R → SeatView A R X → SeatView A R X
  passed_with ask reply v = record v { has_ticket = false; is_served = false; history = v.history ++ entry ask reply ∷ []; calls = v.calls ++ length v.history ∷ [] }

  abbrev pub passed : Option (A × R) → SeatView A R X → SeatView A R X
  passed None v = passed_without v
  passed (Some e) v = passed_with e.0 e.1 v

  -- split: the old view loses a weight of 1, and the new one has it
  abbrev pub lightened : SeatView A R X → SeatView A R X
  lightened v = record v { weight = v.weight - 1 }

  abbrev pub split_off : SeatView A R X → SeatView A R X
  split_off v = record { start = v.start; seats = v.seats; weight = 1; has_ticket = false; ticket = 0; is_served = false; history = v.history; olds = []; calls = [] }

  -- a view of no weight that keeps the history
  abbrev pub history_only : SeatView A R X → SeatView A R X
  history_only v = record { start = v.start; seats = v.seats; weight = 0; has_ticket = false; ticket = 0; is_served = false; history = v.history; olds = []; calls = [] }

  -- join: the first view takes over what the second has, and the second is spent
  abbrev pub joined : SeatView A R X → SeatView A R X → SeatView A R X
  joined v w = record v { weight = v.weight + w.weight; history = longer v.history w.history; olds = v.history ∷ w.history ∷ v.olds ++ w.olds; calls = v.calls ++ w.calls }

  abbrev pub spent_view : SeatView A R X
  spent_view = record { start = None; seats = 0; weight = 0; has_ticket = false; ticket = 0; is_served = false; history = []; olds = []; calls = [] }
