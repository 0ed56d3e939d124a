-- What the configuration tells, and what the records make.
use Rattle.std.proofs.Common.{◌≡◌, ℕ, List, [], Option, Some, None, subst}
use Rattle.rg_base.specs.declared.numbers.Moment.{Moment}
use Rattle.rg_cmd.specs.declared.config.Config.{Config}
use Rattle.rg_admin_laws.specs.Logs.{Administration}
use Rattle.rg_admin.specs.Starting.{start_fault}
use Rattle.rg_keep.specs.Keeping.{IsKept, Reopens}
use Rattle.rg_run_script.specs.declared.status.Status.{Status}
use Rattle.rg_run_script.specs.declared.status.Status.TheVariants.{Done}
use Rattle.rg_run_script.specs.Follow.{Comes, Decided, Output, worked}
use Rattle.rg_run_kept.specs.Configuring.{IsLawful, config_step}
use Rattle.rg_run_kept.specs.Kept.{IsTold}

-- a list that makes an administration is opened again
pub reopens : (told : Option (List (List ℕ))) (config : Config) (a : Administration) → IsKept told config a → Reopens told config
reopens None config a is = tt
reopens (Some entries) config a is = (is.lawful, is.good)

module _ (bytes : List ℕ) (given given' : Option (List Moment)) where
  -- the lines were worked from this state, and came to this
  abbrev pub Worked_from : Option Config → List ℕ → Status → Option Config → Type 0
  Worked_from s text status state =
      (decided : List Decided) × Comes (Option Config) (worked config_step s 1) bytes given given' [] (record { text = text; status = status; state = state; decided = decided })

  -- from the start to a configuration
  pub told_so : (s state : Option Config) (text : List ℕ) (status : Status) (config : Config) → s ≡ None → state ≡ Some config → status ≡ Done → Worked_from s text status state
      → IsTold bytes given given' config
  told_so s state text status config begins ends done came =
      let all = subst (λ (t : Option Config). Worked_from t text status state) begins came in (
        record { text = text; status = status; state = state; decided = all.0 },
        all.1,
        done,
        ends,
      )

-- what was taken breaks no rule
pub lawful_so : (state : Option Config) (config : Config) → state ≡ Some config → IsLawful state → start_fault config ≡ None
lawful_so state config is lawful = subst IsLawful is lawful
