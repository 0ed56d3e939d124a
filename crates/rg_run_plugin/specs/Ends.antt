-- How the program ends.
use Rattle.std.specs.Prelude.{◌≡◌, ◌⊎◌, ℕ, Option, Some, None}
use Rattle.rg_run_plugin.specs.Words.{Wanted}

-- 1 where the words ask for nothing, else 0, 4, 5 or 9
abbrev pub IsEnd : Option Wanted → ℕ → Type 0
IsEnd None n = n ≡ 1
IsEnd (Some wanted) n = (n ≡ 0) ⊎ ((n ≡ 4) ⊎ ((n ≡ 5) ⊎ (n ≡ 9)))
