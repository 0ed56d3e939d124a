-- What stands after `keep`, by the status, for a keeper that tells its records and for one that doesn't. To be read after Keeps, and Runs
-- of rg_run_script.
use Rattle.std.specs.Prelude.{◌≡◌, ◌⊎◌, ◌<◌, ◌≤◌, ℕ, ◌++◌, List, [], ◌∷◌, codes, decimal, true, false, Option, Some, None}
use mathlib.Core.List.{IsPrefix}
use Rattle.rg_base.specs.declared.numbers.Moment.{Moment}
use Rattle.rg_hook.specs.Enriching.{EnricherState}
use Rattle.rg_run_script.specs.Lines.{lines_of}
use Rattle.rg_run_script.specs.declared.status.Status.{Status}
use Rattle.rg_run_script.specs.declared.status.Status.TheVariants.{Done, Usage, BadLine, ReadFault, WriteFault, NetFault, TooLong, KeepFault, NoMemory, BadRecord}
use Rattle.rg_run_script.specs.Follow.{Comes, Decided, Output, Script, Work}
use Rattle.rg_run_script.specs.Hooked.{AreAudited, AreAuditedInPart, HaveRunOn, Hooked, Hooks, hooks_of}
use Rattle.rg_run_script.specs.Limits.{is_too_long}
use Rattle.rg_run_script.specs.Moments.{Gave}
use Rattle.rg_run_script.specs.Ports.{Ports}
use Rattle.rg_run_script.specs.Runs.{Overran, too_long_text}
use Rattle.rg_run_script.specs.Streams.{IsAll, Wrote, WrotePrefix}
use Rattle.rg_run_keep.specs.Keeps.{State, keep_step, keeps}

-- what a run sees of the keeper: the records where it tells them, and its faults
pub record Shelf : Type 0 where
  pub records : Option (List (List ℕ))
  pub faults : ℕ

abbrev pub shelf : Option (List (List ℕ)) → ℕ → Shelf
shelf records faults = record { records = records; faults = faults }

unfoldable pub bad_record_text : ℕ → List ℕ
bad_record_text n = codes "bad record " ++ (decimal n ++ 10 ∷ [])

-- ---- the work of a script, from its bytes to what it came to: a text, the records now, and the hooks

-- all lines were worked, or those before a bad one, which is named: all is the script's
abbrev pub IsKeptWhole : List (List ℕ) → List (List ℕ) → Hooks → Hooks → List ℕ → Option (List Moment) → Option (List Moment) → List ℕ → Status → Type 0
IsKeptWhole found now h k bytes clock clock' text status =
    (output : Output (Hooked State)) × Comes (Hooked State) (keeps h.enrichers found) bytes clock clock' [] output
    × (text ≡ output.text) × (output.status ≡ status) × (output.state.state.bad ≡ None) × (now ≡ output.state.state.records) × AreAudited output.decided h k

-- the work stopped at a line, which was read at the last moment that the clock gave: the lines before it come to this
pub record ComesTo (S : Type 0) (script : Script S) (bytes : List ℕ) (clock clock' : Option (List Moment)) (line : List ℕ) (moment : Moment) (front : Output S) : Type 0 where
  pub first : List (List ℕ)
  pub rest : List (List ℕ)
  pub lines : lines_of bytes ≡ first ++ line ∷ rest
  pub moments : List Moment
  pub given : Gave clock clock' (moments ++ moment ∷ [])
  pub defined : script first moments ≡ Some front
  pub done : front.status ≡ Done

-- the records are those that the lines before leave, or those that the line leaves too
abbrev pub AreKept : State → Option (Work (Hooked State)) → List (List ℕ) → Type 0
AreKept s work now = (now ≡ s.records) ⊎ ((w : Work (Hooked State)) × (work ≡ Some w) × (now ≡ w.state.state.records))

-- the work stopped at a line: text and decisions are those of the lines before it, whose records are all kept
pub record IsKeptUpTo (found now : List (List ℕ)) (h k : Hooks) (bytes : List ℕ) (clock clock' : Option (List Moment)) (text : List ℕ) : Type 0 where
  pub line : List ℕ
  pub moment : Moment
  pub front : Output (Hooked State)
  pub comes : ComesTo (Hooked State) (keeps h.enrichers found) bytes clock clock' line moment front
  pub printed : text ≡ front.text
  pub found_first : IsPrefix found now
  pub kept : AreKept front.state.state (keep_step front.state.state front.state.enrichers line moment) now
  pub audited : AreAudited front.decided h k

-- the work stopped at the script's configuration, since this is the place of a bad record among those that were found
pub record IsSpoiled (found now : List (List ℕ)) (h k : Hooks) (bytes : List ℕ) (clock clock' : Option (List Moment)) (place : ℕ) : Type 0 where
  pub line : List ℕ
  pub moment : Moment
  pub front : Output (Hooked State)
  pub comes : ComesTo (Hooked State) (keeps h.enrichers found) bytes clock clock' line moment front
  pub work : Work (Hooked State)
  pub worked : keep_step front.state.state front.state.enrichers line moment ≡ Some work
  pub bad : work.state.state.bad ≡ Some place
  pub untouched : (now ≡ found) × (k ≡ h)

-- what it came to, by the status that it ended with
abbrev pub Came : List (List ℕ) → List (List ℕ) → Hooks → Hooks → List ℕ → Option (List Moment) → Option (List Moment) → List ℕ → Status → Type 0
Came found now h k bytes clock clock' text Done = IsKeptWhole found now h k bytes clock clock' text Done
Came found now h k bytes clock clock' text BadLine = IsKeptWhole found now h k bytes clock clock' text BadLine
Came found now h k bytes clock clock' text KeepFault = IsKeptUpTo found now h k bytes clock clock' text
Came found now h k bytes clock clock' text BadRecord = (place : ℕ) × IsSpoiled found now h k bytes clock clock' place × (text ≡ bad_record_text place)
Came found now h k bytes clock clock' text _ = ⊥

-- memory was refused at a line, where some enrichers may have run for one request more
abbrev pub IsCutOff : List (List ℕ) → List (List ℕ) → Hooks → Hooks → List ℕ → Option (List Moment) → Option (List Moment) → Type 0
IsCutOff found now h k bytes clock clock' =
    (text : List ℕ) × (ran : List EnricherState) × IsKeptUpTo found now h (hooks_of k.sinks ran) bytes clock clock' text × HaveRunOn ran k.enrichers

-- ---- a whole run

-- the source was read to its end, within the limits
pub record IsReadAll (p q : Ports) (bytes : List ℕ) : Type 0 where
  pub all : IsAll p.left bytes
  pub ended : q.ended ≡ true
  pub within : is_too_long bytes ≡ false

-- and its script was worked to this text and this status
abbrev pub IsWorkedTo : List (List ℕ) → List (List ℕ) → Hooks → Hooks → Ports → Ports → List ℕ → Status → Type 0
IsWorkedTo found now h k p q text status = (bytes : List ℕ) × IsReadAll p q bytes × Came found now h k bytes p.given q.given text status

-- all of the text was written
abbrev pub IsPrinted : List (List ℕ) → List (List ℕ) → Hooks → Hooks → Ports → Ports → Status → Type 0
IsPrinted found now h k p q status = (text : List ℕ) × IsWorkedTo found now h k p q text status × Wrote p.held q.held text

-- over a keeper that tells its records: those that were found, those now, and the hooks before and after
abbrev pub Told : List (List ℕ) → List (List ℕ) → Hooks → Hooks → Ports → Ports → Status → Type 0
Told found now h k p q Done = IsPrinted found now h k p q Done
Told found now h k p q BadLine = IsPrinted found now h k p q BadLine
Told found now h k p q KeepFault = IsPrinted found now h k p q KeepFault
Told found now h k p q BadRecord = IsPrinted found now h k p q BadRecord
Told found now h k p q ReadFault = (q.held ≡ p.held) × (q.given ≡ p.given) × (now ≡ found) × (k ≡ h)
Told found now h k p q TooLong = Overran p.left q.left × (q.given ≡ p.given) × Wrote p.held q.held too_long_text × (now ≡ found) × (k ≡ h)
Told found now h k p q WriteFault =
    (Overran p.left q.left × (q.given ≡ p.given) × WrotePrefix p.held q.held too_long_text × (now ≡ found) × (k ≡ h))
    ⊎ ((text : List ℕ) × (status : Status) × IsWorkedTo found now h k p q text status × WrotePrefix p.held q.held text)
Told found now h k p q NoMemory =
    (q.held ≡ p.held) × (((q.given ≡ p.given) × (now ≡ found) × (k ≡ h))
    ⊎ ((bytes : List ℕ) × IsReadAll p q bytes × IsCutOff found now h k bytes p.given q.given))
Told found now h k p q Usage = ⊥
Told found now h k p q NetFault = ⊥

-- over one that tells nothing: what is read, and that the hooks stand as some decisions leave them
abbrev pub Untold : Hooks → Hooks → Ports → Ports → Status → Type 0
Untold h k p q ReadFault = (q.held ≡ p.held) × (q.given ≡ p.given) × (k ≡ h)
Untold h k p q TooLong = Overran p.left q.left × (q.given ≡ p.given) × Wrote p.held q.held too_long_text × (k ≡ h)
Untold h k p q NoMemory = (q.held ≡ p.held) × ((decided : List Decided) × AreAuditedInPart decided h k)
Untold h k p q Usage = ⊥
Untold h k p q NetFault = ⊥
Untold h k p q _ = (decided : List Decided) × AreAudited decided h k

abbrev pub ByRecords : Option (List (List ℕ)) → Option (List (List ℕ)) → Hooks → Hooks → Ports → Ports → Status → Type 0
ByRecords None now h k p q status = (now ≡ None) × Untold h k p q status
ByRecords (Some found) now h k p q status = (records : List (List ℕ)) × (now ≡ Some records) × Told found records h k p q status

-- the keeper's count of faults rose where the status says that it failed, and never falls
abbrev pub CountsKeeps : ℕ → ℕ → Status → Type 0
CountsKeeps old new KeepFault = old < new
CountsKeeps old new _ = old ≤ new

abbrev pub Keeps : Shelf → Shelf → Hooks → Hooks → Ports → Ports → Status → Type 0
Keeps s t h k p q status = ByRecords s.records t.records h k p q status × CountsKeeps s.faults t.faults status
