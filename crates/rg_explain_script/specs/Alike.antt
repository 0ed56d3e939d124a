-- How a script ends that is replayed, and that is explained.
use Rattle.std.specs.Prelude.{◌≡◌, ℕ, ◌++◌, List, Option, Some, None}
use Rattle.rg_run_replay.specs.Replay.{State}
use Rattle.rg_run_script.specs.declared.status.Status.TheVariants.{BadLine}
use Rattle.rg_run_script.specs.Follow.{Output, bad_line_text}
use Rattle.rg_explain_script.specs.Explained.{Progress}

-- the text ends by naming this line
abbrev pub EndsNaming : ℕ → List ℕ → Type 0
EndsNaming n text = (before : List ℕ) × (text ≡ before ++ bad_line_text n)

-- both end with one status and in one state, and where a line is bad both name the same one
pub record AreAlike (replay : Output State) (explained : Output Progress) : Type 0 where
  pub status : explained.status ≡ replay.status
  pub state : explained.state.script ≡ replay.state
  pub named : replay.status ≡ BadLine → (n : ℕ) × EndsNaming n replay.text × EndsNaming n explained.text

-- the same of lines at moments; these are too few or too many for both or for neither
abbrev pub EndAlike : Option (Output State) → Option (Output Progress) → Type 0
EndAlike None None = Unit {0}
EndAlike (Some replay) (Some explained) = AreAlike replay explained
EndAlike None (Some explained) = ⊥
EndAlike (Some replay) None = ⊥
