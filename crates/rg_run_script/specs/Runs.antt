-- What a run over a script does: the text that belongs to its bytes and its moments, and what stands of it by the status.
use Rattle.std.specs.Prelude.{◌≡◌, ◌⊎◌, ◌<◌, ◌≤◌, ℕ, List, [], ◌++◌, codes, length, true, false, Option}
use Rattle.rg_base.specs.declared.numbers.Moment.{Moment}
use Rattle.rg_run_script.specs.declared.status.Status.{Status}
use Rattle.rg_run_script.specs.declared.status.Status.TheVariants.{Done, Usage, BadLine, ReadFault, WriteFault, NetFault, TooLong, KeepFault, NoMemory, BadRecord}
use Rattle.rg_run_script.specs.Follow.{Comes, Output, Script}
use Rattle.rg_run_script.specs.Hooked.{AreAudited, AreAuditedInPart, Hooks}
use Rattle.rg_run_script.specs.Limits.{is_too_long, room}
use Rattle.rg_run_script.specs.Ports.{Ports}
use Rattle.rg_run_script.specs.Statuses.{number_of}
use Rattle.rg_run_script.specs.Streams.{HasRead, IsAll, Wrote, WrotePrefix}

abbrev pub too_long_text : List ℕ
too_long_text = codes "too long\n"

-- the source was read to its end, within the limits, and the script of its bytes comes to this output
pub record Follows (S : Type 0) (script : Script S) (p q : Ports) (later : List Moment) (output : Output S) : Type 0 where
  pub bytes : List ℕ
  pub all : IsAll p.left bytes
  pub ended : q.ended ≡ true
  pub within : is_too_long bytes ≡ false
  pub comes : Comes S script bytes p.given q.given later output

-- the bytes given passed a limit by the last read, and reading stopped there
pub record Overran (left left' : Option (List ℕ)) : Type 0 where
  pub bytes : List ℕ
  pub last : List ℕ
  pub read : HasRead left (bytes ++ last) left'
  pub within : is_too_long bytes ≡ false
  pub over : is_too_long (bytes ++ last) ≡ true
  pub one : length last ≤ room

-- what stands where a script wasn't read to its end, by the status
abbrev pub IsUnread : Ports → Ports → Status → Type 0
IsUnread p q ReadFault = (q.held ≡ p.held) × (q.given ≡ p.given)
IsUnread p q TooLong = Overran p.left q.left × (q.given ≡ p.given) × Wrote p.held q.held too_long_text
IsUnread p q WriteFault = Overran p.left q.left × (q.given ≡ p.given) × WrotePrefix p.held q.held too_long_text
IsUnread p q NoMemory = (q.held ≡ p.held) × (q.given ≡ p.given)
IsUnread p q _ = ⊥

-- what stands after a script, by the status
abbrev pub Stands : (S : Type 0) → Script S → Ports → Ports → Status → Type 0
Stands S script p q Done = (output : Output S) × Follows S script p q [] output × Wrote p.held q.held output.text × (output.status ≡ Done)
Stands S script p q BadLine = (output : Output S) × Follows S script p q [] output × Wrote p.held q.held output.text × (output.status ≡ BadLine)
Stands S script p q ReadFault = (q.held ≡ p.held) × (q.given ≡ p.given)
Stands S script p q TooLong = Overran p.left q.left × (q.given ≡ p.given) × Wrote p.held q.held too_long_text
Stands S script p q WriteFault =
    (Overran p.left q.left × (q.given ≡ p.given) × WrotePrefix p.held q.held too_long_text)
    ⊎ ((output : Output S) × Follows S script p q [] output × WrotePrefix p.held q.held output.text)
Stands S script p q NoMemory =
    (q.held ≡ p.held) × ((q.given ≡ p.given) ⊎ ((later : List Moment) × (output : Output S) × Follows S script p q later output))
Stands S script p q Usage = ⊥
Stands S script p q NetFault = ⊥
Stands S script p q KeepFault = ⊥
Stands S script p q BadRecord = ⊥

-- all was read, worked without a bad line and written, and the work came to this state
abbrev pub EndsIn : {S : Type 0} → Script S → Ports → Ports → S → Type 0
EndsIn {S} script p q state = (output : Output S) × Follows S script p q [] output × Wrote p.held q.held output.text × (output.status ≡ Done) × (output.state ≡ state)

-- the source's count of faults rose where the status says that it failed, and else it stayed
abbrev pub CountsReads : Ports → Ports → Status → Type 0
CountsReads p q ReadFault = p.read_faults < q.read_faults
CountsReads p q _ = q.read_faults ≡ p.read_faults

-- the same of the sink
abbrev pub WriteFaults : Status → ℕ → ℕ → Type 0
WriteFaults WriteFault old new = old < new
WriteFaults _ old new = new ≡ old

abbrev pub CountsWrites : Ports → Ports → Status → Type 0
CountsWrites p q status = WriteFaults status p.write_faults q.write_faults

-- a run from the ports p to the ports q: what stands, and both counts
pub record IsRun (Standing : Ports → Ports → Status → Type 0) (p q : Ports) (status : Status) : Type 0 where
  pub stands : Standing p q status
  pub reads : CountsReads p q status
  pub writes : CountsWrites p q status

-- the number is that of a status of which this holds
abbrev pub OfStatus : ℕ → (Status → Type 0) → Type 0
OfStatus n P = (status : Status) × (n ≡ number_of status) × P status

-- what stands after a script with hooks, by the status: after Done and BadLine the hooks stand as its decisions leave them, after each
-- other status as the first of these do, and where nothing was worked as before
abbrev pub StandsHooked : (S : Type 0) → Script S → Hooks → Hooks → Ports → Ports → Status → Type 0
StandsHooked S script h k p q Done =
    (output : Output S) × Follows S script p q [] output × Wrote p.held q.held output.text × (output.status ≡ Done) × AreAudited output.decided h k
StandsHooked S script h k p q BadLine =
    (output : Output S) × Follows S script p q [] output × Wrote p.held q.held output.text × (output.status ≡ BadLine) × AreAudited output.decided h k
StandsHooked S script h k p q ReadFault = (q.held ≡ p.held) × (q.given ≡ p.given) × (k ≡ h)
StandsHooked S script h k p q TooLong = Overran p.left q.left × (q.given ≡ p.given) × Wrote p.held q.held too_long_text × (k ≡ h)
StandsHooked S script h k p q WriteFault =
    (Overran p.left q.left × (q.given ≡ p.given) × WrotePrefix p.held q.held too_long_text × (k ≡ h))
    ⊎ ((output : Output S) × Follows S script p q [] output × WrotePrefix p.held q.held output.text × AreAudited output.decided h k)
StandsHooked S script h k p q NoMemory =
    (q.held ≡ p.held) × (((q.given ≡ p.given) × (k ≡ h))
    ⊎ ((later : List Moment) × (output : Output S) × Follows S script p q later output × AreAuditedInPart output.decided h k))
StandsHooked S script h k p q Usage = ⊥
StandsHooked S script h k p q NetFault = ⊥
StandsHooked S script h k p q KeepFault = ⊥
StandsHooked S script h k p q BadRecord = ⊥
