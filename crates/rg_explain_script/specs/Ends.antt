-- What stands after a run, and how it ends.
use Rattle.std.specs.Prelude.{◌≡◌, ℕ, Option, Some, None}
use Rattle.rg_run_script.specs.declared.status.Status.{Status}
use Rattle.rg_run_script.specs.declared.status.Status.TheVariants.{Usage}
use Rattle.rg_run_script.specs.Ports.{Ports}
use Rattle.rg_run_script.specs.Runs.{IsRun, OfStatus, Stands}
use Rattle.rg_explain_script.specs.Explained.{Progress, explained}
use Rattle.rg_explain_script.specs.declared.options.Options.{Options}

-- words that ask for nothing are answered with the status, and nothing is read or written
abbrev pub IsRefused : Ports → Ports → Status → Type 0
IsRefused p q Usage = q ≡ p
IsRefused p q _ = ⊥

-- what stands after a run by these options, None for words that ask for nothing
abbrev pub Answers : Option Options → Ports → Ports → Status → Type 0
Answers (Some o) p q status = Stands Progress (explained o) p q status
Answers None p q status = IsRefused p q status

-- the number is that of some run
abbrev pub IsEndOf : Option Options → ℕ → Type 0
IsEndOf asked n = (p : Ports) × (q : Ports) × OfStatus n (IsRun (Answers asked) p q)
