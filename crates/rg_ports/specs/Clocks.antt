-- What contracts see of the clock in memory.
use Rattle.std.specs.Prelude.{ℕ, zero, suc, List, [], ◌∷◌, ◌++◌, pos}
use Rattle.rg_base.specs.declared.numbers.Moment.{Moment}
use Rattle.rg_ports.specs.Repeated.{repeated}

-- the moments to give, and how many calls there were
pub record ClockState : Type 0 where
  pub moments : List Moment
  pub calls : ℕ

-- the moment of the call at this place, counted from 0: the last moment repeats
abbrev pub moment_of : List Moment → ℕ → Moment
moment_of moments place = repeated (record { 0 = pos 0 }) moments place

-- the moments of the first calls, in order
abbrev pub first_moments : List Moment → ℕ → List Moment
first_moments moments zero = []
first_moments moments (suc calls) = first_moments moments calls ++ moment_of moments calls ∷ []
