-- For proofs: a script of a kept administration on its way.
use Rattle.std.specs.Prelude.{◌≡◌, ◌⊎◌, ◌++◌, ℕ, List, Option, Some, None}
use Rattle.rg_base.specs.declared.numbers.Moment.{Moment}
use Rattle.rg_hook.specs.Enriching.{EnricherState}
use Rattle.rg_keep.specs.declared.kept_admin.KeptReply.{KeptReply}
use Rattle.rg_keep.specs.declared.kept_admin.KeptReply.TheVariants as reply
use Rattle.rg_keep.specs.declared.reopen.ReopenCause.{ReopenCause}
use Rattle.rg_keep.specs.declared.reopen.ReopenCause.TheVariants as cause
use Rattle.rg_record_store.specs.declared.keeper.KeeperFault.{KeeperFault}
use Rattle.rg_record_store.specs.declared.keeper.KeeperFault.TheVariants as fault
use Rattle.rg_run_script.specs.declared.status.Status.{Status}
use Rattle.rg_run_script.specs.declared.status.Status.TheVariants.{Done, BadLine, KeepFault, BadRecord}
use Rattle.rg_run_script.specs.Follow.{Decided, IsWorked, Work, bad_line_text}
use Rattle.rg_run_script.specs.Hooked.{AreAudited, AreAuditedInPart, HaveRunOn, Hooked, Hooks, IsAudited, carrying, hooked}
use Rattle.rg_run_script.specs.Printed.{quiet, reply_line}
use Rattle.rg_run_keep.specs.Custody.{Came, IsCutOff, bad_record_text}
use Rattle.rg_run_keep.specs.Keeps.{Opened, State, at, full_line, keep_step}
use Rattle.rg_run_keep.specs.declared.stage.KeepStop.{KeepStop}
use Rattle.rg_run_keep.specs.declared.stage.KeepStop.TheVariants as stop
use Rattle.rg_run_keep.specs.declared.stage.Stage.{Stage}
use Rattle.rg_run_keep.specs.declared.stage.Stage.TheVariants as stage

-- ---- a stage

abbrev pub keeper_of : {K : Type 0} → Stage K → K
keeper_of (stage.Closed keeper) = keeper
keeper_of (stage.Opened keeping) = keeping.desk.keeper

-- what was opened, None before the configuration
abbrev pub opened_of : {K : Type 0} → Stage K → Option Opened
opened_of (stage.Closed keeper) = None
opened_of (stage.Opened keeping) = Some (record { config = keeping.config; admin = keeping.desk.admin })

-- ---- why a script stops

abbrev pub stop_of_cause : ReopenCause → KeepStop
stop_of_cause (cause.Rule rule) = stop.Bad
stop_of_cause (cause.BadRecord place) = stop.BadRecord place
stop_of_cause cause.Failed = stop.Failed
stop_of_cause cause.NoMemory = stop.NoMemory

abbrev pub stop_of_fault : KeeperFault → KeepStop
stop_of_fault fault.Failed = stop.Failed
stop_of_fault fault.NoMemory = stop.NoMemory

-- ---- a line without hooks, from the records that the keeper tells before it to those after it

abbrev pub kept_reply_line : KeptReply → List ℕ
kept_reply_line (reply.Reply r) = reply_line r
kept_reply_line reply.Full = full_line

-- the work is this, but for what it prints
abbrev pub Makes : Option (List (List ℕ)) → (List (List ℕ) → Option (Work State)) → Option (List (List ℕ)) → Option Opened → List ℕ → Type 0
Makes None work told o printed = told ≡ None
Makes (Some records) work told o printed = (w : Work State) × (work records ≡ Some w) × (told ≡ Some w.state.records) × (w.state ≡ at o w.state.records) × (w.text ≡ printed)

-- the line was worked
abbrev pub Goes : Option (List (List ℕ)) → (List (List ℕ) → Option (Work State)) → Option (List (List ℕ)) → Option Opened → List ℕ → List ℕ → Type 0
Goes None work told o old new = told ≡ None
Goes (Some records) work told o old new = (now : List (List ℕ)) × (told ≡ Some now) × IsWorked (work records) (at o now) old new

-- the records are as before, or as the line leaves them
abbrev pub MayAdd : List (List ℕ) → Option (Work State) → Option (List (List ℕ)) → Type 0
MayAdd records work told = (told ≡ Some records) ⊎ ((w : Work State) × (work ≡ Some w) × (told ≡ Some w.state.records))

-- nothing is opened of records with a bad one
abbrev pub spoiled : List (List ℕ) → ℕ → State
spoiled records place = record { opened = None; records = records; bad = Some place }

-- the script stops at the line
abbrev pub Stops : KeepStop → Option (List (List ℕ)) → (List (List ℕ) → Option (Work State)) → Option Opened → Option (List (List ℕ)) → Type 0
Stops why None work o told = told ≡ None
Stops stop.Bad (Some records) work o told = (told ≡ Some records) × (work records ≡ None)
Stops (stop.BadRecord place) (Some records) work o told = (told ≡ Some records) × (o ≡ None) × (work records ≡ Some (quiet (spoiled records place)))
Stops stop.Failed (Some records) work o told = MayAdd records (work records) told
Stops stop.NoMemory (Some records) work o told = MayAdd records (work records) told

-- ---- the same with hooks

-- the work of a line over the records
abbrev pub line_step : Option Opened → List EnricherState → List ℕ → Moment → List (List ℕ) → Option (Work (Hooked State))
line_step o es line now records = keep_step (at o records) es line now

-- the line was worked, and its decision audited
abbrev pub GoesOn : Option (List (List ℕ)) → (List (List ℕ) → Option (Work (Hooked State))) → Option (List (List ℕ)) → Option Opened → Hooks → Hooks → List ℕ → List ℕ → Type 0
GoesOn None work told o h k old new = (told ≡ None) × ((decided : List Decided) × AreAudited decided h k)
GoesOn (Some records) work told o h k old new =
    (now : List (List ℕ)) × (told ≡ Some now) × IsWorked (work records) (hooked (at o now) k.enrichers) old new × IsAudited (work records) h k

-- the records are as before, or as the line leaves them
abbrev pub MayKeep : List (List ℕ) → Option (Work (Hooked State)) → Option (List (List ℕ)) → Type 0
MayKeep records work told = (told ≡ Some records) ⊎ ((w : Work (Hooked State)) × (work ≡ Some w) × (told ≡ Some w.state.state.records))

-- the script stops at the line
abbrev pub StopsAt : KeepStop → Option (List (List ℕ)) → (List (List ℕ) → Option (Work (Hooked State))) → Option Opened → List EnricherState → Option (List (List ℕ)) → Type 0
StopsAt why None work o es told = told ≡ None
StopsAt stop.Bad (Some records) work o es told = (told ≡ Some records) × (work records ≡ None)
StopsAt (stop.BadRecord place) (Some records) work o es told = (told ≡ Some records) × (o ≡ None) × (work records ≡ Some (carrying es (quiet (spoiled records place))))
StopsAt stop.Failed (Some records) work o es told = MayKeep records (work records) told
StopsAt stop.NoMemory (Some records) work o es told = MayKeep records (work records) told

-- where a script stops its hooks are as before, but that enrichers may have run where memory was refused
abbrev pub IsLeft : KeepStop → Hooks → Hooks → Type 0
IsLeft stop.Bad h k = k ≡ h
IsLeft (stop.BadRecord place) h k = k ≡ h
IsLeft stop.Failed h k = k ≡ h
IsLeft stop.NoMemory h k = (k.sinks ≡ h.sinks) × HaveRunOn h.enrichers k.enrichers

-- the text and the status where a script stops at line n
abbrev pub IsNamed : KeepStop → ℕ → List ℕ → List ℕ → Status → Type 0
IsNamed stop.Bad n old new status = (status ≡ BadLine) × (new ≡ old ++ bad_line_text n)
IsNamed (stop.BadRecord place) n old new status = (status ≡ BadRecord) × (new ≡ old ++ bad_record_text place)
IsNamed stop.Failed n old new status = (status ≡ KeepFault) × (new ≡ old)
IsNamed stop.NoMemory n old new status = ⊥

-- ---- all lines, from the records and hooks that were found to those that are there now

-- these are the statuses that a script ends with
abbrev pub CanEnd : Status → Type 0
CanEnd Done = Unit {0}
CanEnd BadLine = Unit {0}
CanEnd KeepFault = Unit {0}
CanEnd BadRecord = Unit {0}
CanEnd _ = ⊥

-- the script came to its end, or stopped with this text and status
abbrev pub Ended : Option (List (List ℕ)) → Option (List (List ℕ)) → Hooks → Hooks → List ℕ → Option (List Moment) → Option (List Moment) → List ℕ → Status → Type 0
Ended None told h k bytes clock clock' text status = (told ≡ None) × ((decided : List Decided) × AreAudited decided h k)
Ended (Some found) told h k bytes clock clock' text status = (records : List (List ℕ)) × (told ≡ Some records) × Came found records h k bytes clock clock' text status

-- it was cut off for want of memory
abbrev pub CutOff : Option (List (List ℕ)) → Option (List (List ℕ)) → Hooks → Hooks → List ℕ → Option (List Moment) → Option (List Moment) → Type 0
CutOff None told h k bytes clock clock' = (told ≡ None) × ((decided : List Decided) × AreAuditedInPart decided h k)
CutOff (Some found) told h k bytes clock clock' = (records : List (List ℕ)) × (told ≡ Some records) × IsCutOff found records h k bytes clock clock'
