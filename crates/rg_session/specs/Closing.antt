-- What the end of a service tells of its passes.
use Rattle.std.specs.Prelude.{◌≡◌, ℕ, ◌-◌, ◌^◌, ◌≤◌, Bool, nat_lt, min, sum_by, List, length, Option, option_map}
use Rattle.std.specs.List.{find}
use mathlib.Core.List.{IsPrefix}
use Rattle.rg_publish.specs.Passes.{Seeing}
use Rattle.rg_publish.specs.Publications.{Published}
use Rattle.rg_session.specs.declared.settling.Ahead.{Ahead}

-- the pass has seen more than n publications
abbrev pub is_ahead : ℕ → Seeing → Bool
is_ahead n pass = nat_lt n (length pass.list)

abbrev pub ahead : ℕ → Seeing → Ahead
ahead n pass = record { told = record { 0 = n }; seen = record { 0 = length pass.list } }

-- the first pass that has seen more than n publications
abbrev pub ahead_of : ℕ → List Seeing → Option Ahead
ahead_of n passes = option_map (ahead n) (find (is_ahead n) passes)

-- how often these passes answered; it stays at the last u64
abbrev pub answers_of : List Seeing → ℕ
answers_of passes = min (sum_by (λ (p : Seeing). p.answered) passes) (2 ^ 64 - 1)

-- the pass is of the publisher, if it has seen no more
abbrev pub IsOwn : Published → Seeing → Type 0
IsOwn publisher pass = length pass.list ≤ length publisher.list → pass.book ≡ publisher.book

-- the publisher's list goes on from what the pass has seen
abbrev pub IsKnown : Published → Seeing → Type 0
IsKnown publisher pass = IsPrefix pass.list publisher.list
