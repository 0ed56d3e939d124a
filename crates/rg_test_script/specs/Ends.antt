-- How tests end.
use Rattle.std.specs.Prelude.{◌≡◌, ℕ, Option, Some, None}
use Rattle.rg_run_script.specs.Ports.{Ports}
use Rattle.rg_run_script.specs.Runs.{IsRun, OfStatus, Stands}
use Rattle.rg_test_script.specs.declared.form.Form.{Form}
use Rattle.rg_test_script.specs.Testing.{tested}

-- the number is that of some run in this form, and that of usage where the words ask for none
abbrev pub IsEnd : Option Form → ℕ → Type 0
IsEnd None n = n ≡ 1
IsEnd (Some form) n = (p : Ports) × (q : Ports) × OfStatus n (IsRun (Stands _ (tested form)) p q)
