-- What is named first, and what the command prints.
use Rattle.std.specs.Prelude.{◌≡◌, ℕ, ◌++◌, List, [], ◌∷◌}
use Rattle.rg_run_script.specs.declared.status.Status.TheVariants.{Done, BadLine}
use Rattle.rg_run_script.specs.Follow.{Output, bad_line_text}
use Rattle.rg_check.specs.Checking.{Finding}

-- the script was done where nothing is named, and else it ended by naming the same line
abbrev pub EndsAtFirst : {S : Type 0} → Output S → List Finding → Type 0
EndsAtFirst o [] = o.status ≡ Done
EndsAtFirst o (f ∷ fs) = (o.status ≡ BadLine) × (before : List ℕ) × (o.text ≡ before ++ bad_line_text f.number)
