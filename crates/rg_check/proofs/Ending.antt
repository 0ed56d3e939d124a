-- How a check ends: with the number of a status.
use Rattle.std.proofs.Common.{◌≡◌, inl, ℕ, false, Option, Some, None, refl, sym, subst}
use Rattle.rg_run_script.specs.declared.status.Status.TheVariants.{NoMemory}
use Rattle.rg_run_script.specs.Ports.{Ports, ports}
use Rattle.rg_run_script.specs.Runs.{IsRun, OfStatus, Stands}
use Rattle.rg_check.specs.declared.command.Command.{Command}
use Rattle.rg_check.specs.Checking.{checked}
use Rattle.rg_check.specs.Ends.{IsEndOf}

idle : Ports
idle = ports None false 0 None None 0

pub never_begun : (command : Command) (n : ℕ) → n ≡ 9 → IsEndOf (Some command) n
never_begun command n is = (idle, idle, (NoMemory, is, record { stands = (refl, inl refl); reads = refl; writes = refl }))

pub ended_so : (command : Command) (p q : Ports) (n m : ℕ) → m ≡ n → OfStatus n (IsRun (Stands _ (checked command)) p q) → IsEndOf (Some command) m
ended_so command p q n m same of = (p, q, subst (λ k. OfStatus k (IsRun (Stands _ (checked command)) p q)) (sym same) of)

pub asked_so : (wanted asked : Option Command) (n : ℕ) → wanted ≡ asked → IsEndOf wanted n → IsEndOf asked n
asked_so wanted asked n same is = subst (λ a. IsEndOf a n) same is
