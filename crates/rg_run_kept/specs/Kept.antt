-- What a service that keeps leaves. To be read after Configuring.
use Rattle.std.specs.Prelude.{◌≡◌, ◌⊎◌, ℕ, ◌++◌, Bool, List, [], codes, decimal, Option, Some, None}
use Rattle.rg_base.specs.declared.numbers.Moment.{Moment}
use Rattle.rg_cmd.specs.declared.ask.AdminReply.{AdminReply}
use Rattle.rg_cmd.specs.declared.ask.Ask.{Ask}
use Rattle.rg_cmd.specs.declared.config.Config.{Config}
use Rattle.rg_turn.specs.History.{IsLegal, state_after}
use Rattle.rg_turn.specs.declared.rule.Entry.{Entry}
use Rattle.rg_admin_laws.specs.Logs.{Administration}
use Rattle.rg_admin_laws.specs.Steps.{step}
use Rattle.rg_admin.specs.Starting.{started}
use Rattle.rg_recorder.specs.Recorded.{IsKeptOr}
use Rattle.rg_run_script.specs.declared.status.Status.{Status}
use Rattle.rg_run_script.specs.declared.status.Status.TheVariants.{Done, WriteFault, KeepFault, NoMemory, BadRecord}
use Rattle.rg_run_script.specs.Follow.{Comes, Output, worked}
use Rattle.rg_run_script.specs.Streams.{IsAll}
use Rattle.rg_run_kept.specs.Configuring.{config_step}
use Rattle.rg_run_kept.specs.declared.serving.Numbers.{Numbers}

unfoldable pub totals_line : Numbers → List ℕ
totals_line t =
    codes "links=" ++ (decimal t.links ++ (codes " entries=" ++ (decimal t.entries ++ (codes " publications=" ++ (decimal t.publications
    ++ (codes " decisions=" ++ (decimal t.decisions ++ (codes " kept=" ++ (decimal t.kept ++ codes "\n")))))))))

-- the lines of these bytes tell this configuration
abbrev pub IsTold : List ℕ → Option (List Moment) → Option (List Moment) → Config → Type 0
IsTold bytes given given' config =
    (output : Output (Option Config)) × Comes (Option Config) (worked config_step None 1) bytes given given' [] output × (output.status ≡ Done) × (output.state ≡ Some config)

-- the list is there, and is opened again as the administration; or, after a fault of the keeper, as that with one command more
abbrev pub IsKeptIn : Option (Option (List (List ℕ))) → Config → Administration → Type 0
IsKeptIn None config a = ⊥
IsKeptIn (Some told) config a = (stopped : Bool) × IsKeptOr stopped told config a

-- so it is after a whole history from the start of the configuration
abbrev pub IsServed : Config → Option (Option (List (List ℕ))) → Type 0
IsServed config told =
    (past : List (Entry Ask AdminReply)) × IsLegal step (started config) past × IsKeptIn told config (state_after step (started config) past)

-- under the configuration that the source told
abbrev pub HasServed : Option (List ℕ) → Option (List Moment) → Option (Option (List (List ℕ))) → Type 0
HasServed left given told =
    (bytes : List ℕ) × IsAll left bytes × ((given' : Option (List Moment)) × (config : Config) × IsTold bytes given given' config × IsServed config told)

-- why records aren't taken again
abbrev pub IsHindrance : Status → Type 0
IsHindrance status = (status ≡ BadRecord) ⊎ ((status ≡ WriteFault) ⊎ ((status ≡ KeepFault) ⊎ (status ≡ NoMemory)))
