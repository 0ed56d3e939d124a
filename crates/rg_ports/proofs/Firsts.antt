-- The moments of one call more.
use Rattle.std.proofs.Common.{◌≡◌, ◌+◌, ℕ, List, [], ◌∷◌, ◌++◌, refl, add-one}
use Rattle.rg_base.specs.declared.numbers.Moment.{Moment}
use Rattle.rg_ports.specs.Clocks.{first_moments, moment_of}

pub first_moments_more : (ms : List Moment) (n : ℕ) → first_moments ms (n + 1) ≡ first_moments ms n ++ moment_of ms n ∷ []
first_moments_more ms n = rw add-one refl

pub ruleset firsts = (first_moments_more)
