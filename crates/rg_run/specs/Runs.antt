-- What stands after a command, by the status. To be read after Runs of rg_run_script.
use Rattle.std.specs.Prelude.{◌≡◌, ℕ, List, [], ◌∷◌, codes, Option, Some, None}
use Rattle.rg_run_drill.specs.Drill.{IsCarriedOut}
use Rattle.rg_run_drill.specs.Report.{report_text}
use Rattle.rg_run_drill.specs.declared.totals.Totals.{Totals}
use Rattle.rg_run_script.specs.declared.status.Status.{Status}
use Rattle.rg_run_script.specs.declared.status.Status.TheVariants.{Done, Usage, WriteFault, NoMemory}
use Rattle.rg_hook.specs.Enriching.{EnricherState}
use Rattle.rg_hook.specs.Told.{SinkState}
use Rattle.rg_run_script.specs.Hooked.{Hooks, hooks_of}
use Rattle.rg_run_script.specs.Ports.{Ports}
use Rattle.rg_run_script.specs.Runs.{IsRun, OfStatus, Stands, StandsHooked}
use Rattle.rg_run_script.specs.Streams.{Wrote, WrotePrefix}
use Rattle.rg_run_grants.specs.Grants.{grants}
use Rattle.rg_run_replay.specs.Replay.{replayed_with}
use Rattle.rg_run_report.specs.Report.{reported}
use Rattle.rg_run_serve.specs.Serve.{Door}
use Rattle.rg_run_serve.specs.Serves.{ServesLinks}
use Rattle.rg_run_keep.specs.Custody.{Keeps, Shelf, shelf}
use Rattle.rg_run.specs.declared.command.Command.{Command}
use Rattle.rg_run.specs.declared.command.Command.TheVariants.{Replay, Serve, Drill, Grants, Report, Keep}

abbrev pub usage_text : List ℕ
usage_text = codes "usage: rangerd replay | serve ADDRESS LINKS | drill SEED POLICIES REQUESTS | grants | report | keep\n"

-- what stands after words that ask for no command
abbrev pub IsTold : Ports → Ports → Status → Type 0
IsTold p q Usage = Wrote p.held q.held usage_text
IsTold p q WriteFault = WrotePrefix p.held q.held usage_text
IsTold p q NoMemory = q.held ≡ p.held
IsTold p q _ = ⊥

-- what a drill leaves in the sink: its report, or after a failed write a prefix of it
abbrev pub Drilled : ℕ → ℕ → ℕ → Option (List ℕ) → Option (List ℕ) → Status → Type 0
Drilled seed policies requests old new Done = (t : Totals) × IsCarriedOut seed policies requests t × Wrote old new (report_text t)
Drilled seed policies requests old new WriteFault = (t : Totals) × IsCarriedOut seed policies requests t × WrotePrefix old new (report_text t)
Drilled seed policies requests old new NoMemory = new ≡ old
Drilled seed policies requests old new _ = ⊥

-- what a run sees of the keeper that is in its place
abbrev pub shelf_of : {K : Type 0} → (K → Option (List (List ℕ))) → (K → ℕ) → Option K → Shelf
shelf_of kept faults None = shelf None 0
shelf_of kept faults (Some keeper) = shelf (kept keeper) (faults keeper)

-- what the hooks of worker 0 tell
abbrev pub first_hooks : {H : Type 0} → (H → List (SinkState × ℕ)) → (H → List EnricherState) → List H → Hooks
first_hooks sinks enrichers [] = hooks_of [] []
first_hooks sinks enrichers (h ∷ hs) = hooks_of (sinks h) (enrichers h)

-- what a run sees beside its ports: the listener, the keeper, and the hooks of worker 0
pub record Around : Type 0 where
  pub door : Door
  pub shelf : Shelf
  pub hooks : Hooks

abbrev pub around : Door → Shelf → Hooks → Around
around d s h = record { door = d; shelf = s; hooks = h }

-- what stands after the command with so many workers, None for words that ask for none
abbrev pub Answers : ℕ → Around → Around → Option Command → Ports → Ports → Status → Type 0
Answers n a b (Some Replay) p q status = StandsHooked _ (replayed_with a.hooks.enrichers) a.hooks b.hooks p q status
Answers n a b (Some (Serve address links)) p q status = ServesLinks links n a.door b.door p q status
Answers n a b (Some (Drill seed policies requests)) p q status = Drilled seed policies requests p.held q.held status
Answers n a b (Some Grants) p q status = StandsHooked _ (grants a.hooks.enrichers) a.hooks b.hooks p q status
Answers n a b (Some Report) p q status = Stands _ reported p q status
Answers n a b (Some Keep) p q status = Keeps a.shelf b.shelf a.hooks b.hooks p q status
Answers n a b None p q status = IsTold p q status

-- the number is that of some run of the command
abbrev pub IsEndOf : Option Command → ℕ → Type 0
IsEndOf command n = (workers : ℕ) × (a : Around) × (b : Around) × (p : Ports) × (q : Ports) × OfStatus n (IsRun (Answers workers a b command) p q)
