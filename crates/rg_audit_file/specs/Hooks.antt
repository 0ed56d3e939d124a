-- What the hooks of a worker tell.
use Rattle.std.specs.Prelude.{ℕ, List, [], ◌∷◌, Option, Some, None}
use Rattle.rg_hook.specs.Told.{SinkState}

-- a sink with its number of failures, if there is one. `heard` and `faults` are what it tells
abbrev pub sinks_of : {S : Type 0} → (S → Option (List (List ℕ))) → (S → ℕ) → Option S → ℕ → List (SinkState × ℕ)
sinks_of heard faults None failures = []
sinks_of heard faults (Some sink) failures = (record { heard = heard sink; faults = faults sink }, failures) ∷ []
