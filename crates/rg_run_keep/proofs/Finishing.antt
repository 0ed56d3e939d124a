-- From the parts of a run of `keep` to the whole.
use Rattle.std.proofs.Common.{◌≡◌, ◌⊎◌, ◌≤◌, ◌<◌, ℕ, true, false, List, [], Option, Some, None, arith, inl, inr, refl, subst}
use Rattle.rg_run_script.specs.declared.status.Status.{Status}
use Rattle.rg_run_script.specs.declared.status.Status.TheVariants.{Done, Usage, BadLine, ReadFault, WriteFault, NetFault, TooLong, KeepFault, NoMemory, BadRecord}
use Rattle.rg_run_script.specs.Follow.{Decided}
use Rattle.rg_run_script.specs.Hooked.{AreAudited, AreAuditedInPart, Hooks}
use Rattle.rg_run_script.specs.Limits.{is_too_long}
use Rattle.rg_run_script.specs.Ports.{Ports}
use Rattle.rg_run_script.specs.Runs.{CountsReads, CountsWrites, IsRun, IsUnread}
use Rattle.rg_run_script.specs.Streams.{IsAll, Wrote, WrotePrefix}
use Rattle.rg_run_script.proofs.Hooks.{audited_none}
use Rattle.rg_run_keep.specs.Custody.{ByRecords, Came, CountsKeeps, IsCutOff, IsWorkedTo, Keeps, Told, Untold, shelf}
use Rattle.rg_run_keep.specs.Stages.{CanEnd, CutOff, Ended}

-- ---- nothing was worked

-- nothing was decided
none_in_part : (h : Hooks) → AreAuditedInPart [] h h
none_in_part h = record { audited = []; ran = h.enrichers; first = ([], refl); after = audited_none h; run = inl refl }

module _ (told : Option (List (List ℕ))) (faults : ℕ) (h : Hooks) (p q : Ports) where
  unread_told : (t : Option (List (List ℕ))) (status : Status) → IsUnread p q status → ByRecords t t h h p q status
  unread_told None ReadFault is = (refl, (is.0, is.1, refl))
  unread_told None TooLong is = (refl, (is.0, is.1, is.2, refl))
  unread_told None WriteFault is = (refl, ([], audited_none h))
  unread_told None NoMemory is = (refl, (is.0, ([], none_in_part h)))
  unread_told None Done is = absurd is
  unread_told None Usage is = absurd is
  unread_told None BadLine is = absurd is
  unread_told None NetFault is = absurd is
  unread_told None KeepFault is = absurd is
  unread_told None BadRecord is = absurd is
  unread_told (Some found) ReadFault is = (found, refl, (is.0, is.1, refl, refl))
  unread_told (Some found) TooLong is = (found, refl, (is.0, is.1, is.2, refl, refl))
  unread_told (Some found) WriteFault is = (found, refl, inl (is.0, is.1, is.2, refl, refl))
  unread_told (Some found) NoMemory is = (found, refl, (is.0, inl (is.1, refl, refl)))
  unread_told (Some found) Done is = absurd is
  unread_told (Some found) Usage is = absurd is
  unread_told (Some found) BadLine is = absurd is
  unread_told (Some found) NetFault is = absurd is
  unread_told (Some found) KeepFault is = absurd is
  unread_told (Some found) BadRecord is = absurd is

  unread_counts : (status : Status) → IsUnread p q status → CountsKeeps faults faults status
  unread_counts ReadFault is = omega arith
  unread_counts TooLong is = omega arith
  unread_counts WriteFault is = omega arith
  unread_counts NoMemory is = omega arith
  unread_counts Done is = omega arith
  unread_counts Usage is = omega arith
  unread_counts BadLine is = omega arith
  unread_counts NetFault is = omega arith
  unread_counts KeepFault is = absurd is
  unread_counts BadRecord is = omega arith

  pub unread_keeps : (status : Status) → IsRun IsUnread p q status → IsRun (Keeps (shelf told faults) (shelf told faults) h h) p q status
  unread_keeps status run = record {
    stands = (unread_told told status run.stands, unread_counts status run.stands);
    reads = run.reads;
    writes = run.writes;
  }

-- ---- counts

counts_keeps : (old new : ℕ) (status : Status) → old ≤ new → (status ≡ KeepFault → old < new) → CountsKeeps old new status
counts_keeps old new Done grown failed = grown
counts_keeps old new Usage grown failed = grown
counts_keeps old new BadLine grown failed = grown
counts_keeps old new ReadFault grown failed = grown
counts_keeps old new WriteFault grown failed = grown
counts_keeps old new NetFault grown failed = grown
counts_keeps old new TooLong grown failed = grown
counts_keeps old new KeepFault grown failed = failed refl
counts_keeps old new NoMemory grown failed = grown
counts_keeps old new BadRecord grown failed = grown

steady : (p q : Ports) (status : Status) → CanEnd status → q.read_faults ≡ p.read_faults → q.write_faults ≡ p.write_faults → CountsReads p q status × CountsWrites p q status
steady p q Done ends reads writes = (reads, writes)
steady p q BadLine ends reads writes = (reads, writes)
steady p q KeepFault ends reads writes = (reads, writes)
steady p q BadRecord ends reads writes = (reads, writes)
steady p q Usage ends reads writes = absurd ends
steady p q ReadFault ends reads writes = absurd ends
steady p q WriteFault ends reads writes = absurd ends
steady p q NetFault ends reads writes = absurd ends
steady p q TooLong ends reads writes = absurd ends
steady p q NoMemory ends reads writes = absurd ends

-- a script that was worked doesn't end as one that wasn't read
pub not_early : (status : Status) (P : Type 0) → CanEnd status → (status ≡ Usage) ⊎ ((status ≡ ReadFault) ⊎ (status ≡ TooLong)) → P
not_early status P ends (inl is) = absurd (subst CanEnd is ends)
not_early status P ends (inr (inl is)) = absurd (subst CanEnd is ends)
not_early status P ends (inr (inr is)) = absurd (subst CanEnd is ends)

-- ---- all was read

module _ (h k : Hooks) (p q : Ports) (got seen text printed : List ℕ) (all : IsAll p.left got) (ended : q.ended ≡ true) (within : is_too_long got ≡ false) (same : seen ≡ got) (spelled : printed ≡ text) where
  worked_to : (found now : List (List ℕ)) (status : Status) → Came found now h k seen p.given q.given text status → IsWorkedTo found now h k p q text status
  worked_to found now status came =
      (got, record { all = all; ended = ended; within = within }, subst (λ bytes. Came found now h k bytes p.given q.given text status) same came)

  -- and all was written
  whole : (found now : List (List ℕ)) (status : Status) → Came found now h k seen p.given q.given text status → Wrote p.held q.held printed → Told found now h k p q status
  whole found now Done came wrote = (text, worked_to found now Done came, subst (Wrote p.held q.held) spelled wrote)
  whole found now BadLine came wrote = (text, worked_to found now BadLine came, subst (Wrote p.held q.held) spelled wrote)
  whole found now KeepFault came wrote = (text, worked_to found now KeepFault came, subst (Wrote p.held q.held) spelled wrote)
  whole found now BadRecord came wrote = (text, worked_to found now BadRecord came, subst (Wrote p.held q.held) spelled wrote)
  whole found now Usage never wrote = absurd never
  whole found now ReadFault never wrote = absurd never
  whole found now WriteFault never wrote = absurd never
  whole found now NetFault never wrote = absurd never
  whole found now TooLong never wrote = absurd never
  whole found now NoMemory never wrote = absurd never

  untold : (status : Status) → CanEnd status → (decided : List Decided) × AreAudited decided h k → Untold h k p q status
  untold Done ends audited = audited
  untold BadLine ends audited = audited
  untold KeepFault ends audited = audited
  untold BadRecord ends audited = audited
  untold Usage ends audited = absurd ends
  untold ReadFault ends audited = absurd ends
  untold WriteFault ends audited = absurd ends
  untold NetFault ends audited = absurd ends
  untold TooLong ends audited = absurd ends
  untold NoMemory ends audited = absurd ends

  whole_told : (told told' : Option (List (List ℕ))) (status : Status) → CanEnd status → Ended told told' h k seen p.given q.given text status → Wrote p.held q.held printed
      → ByRecords told told' h k p q status
  whole_told None told' status ends (none, audited) wrote = (none, untold status ends audited)
  whole_told (Some found) told' status ends (records, tells, came) wrote = (records, tells, whole found records status came wrote)

  -- a part was written
  part_told : (told told' : Option (List (List ℕ))) (status : Status) → Ended told told' h k seen p.given q.given text status → WrotePrefix p.held q.held printed
      → ByRecords told told' h k p q WriteFault
  part_told None told' status (none, audited) wrote = (none, audited)
  part_told (Some found) told' status (records, tells, came) wrote =
      (records, tells, inr (text, status, worked_to found records status came, subst (WrotePrefix p.held q.held) spelled wrote))

  module _ (told told' : Option (List (List ℕ))) (faults faults' : ℕ) (status : Status) (is : Ended told told' h k seen p.given q.given text status) (ends : CanEnd status)
      (grown : faults ≤ faults') (reads : q.read_faults ≡ p.read_faults) where
    pub written : (status ≡ KeepFault → faults < faults') → Wrote p.held q.held printed → q.write_faults ≡ p.write_faults
        → IsRun (Keeps (shelf told faults) (shelf told' faults') h k) p q status
    written failed wrote writes =
        let counts = steady p q status ends reads writes in
        record {
          stands = (whole_told told told' status ends is wrote, counts_keeps faults faults' status grown failed);
          reads = counts.0;
          writes = counts.1;
        }

    pub broken : WrotePrefix p.held q.held printed → p.write_faults < q.write_faults → IsRun (Keeps (shelf told faults) (shelf told' faults') h k) p q WriteFault
    broken wrote writes = record { stands = (part_told told told' status is wrote, grown); reads = reads; writes = writes }

-- memory was refused
module _ (h k : Hooks) (p q : Ports) (got seen : List ℕ) (all : IsAll p.left got) (ended : q.ended ≡ true) (within : is_too_long got ≡ false) (same : seen ≡ got) (held : q.held ≡ p.held) where
  cut_told : (told told' : Option (List (List ℕ))) → CutOff told told' h k seen p.given q.given → ByRecords told told' h k p q NoMemory
  cut_told None told' (none, audited) = (none, (held, audited))
  cut_told (Some found) told' (records, tells, cut) =
      (records, tells, (held, inr (got, record { all = all; ended = ended; within = within }, subst (λ bytes. IsCutOff found records h k bytes p.given q.given) same cut)))

  pub unfinished : (told told' : Option (List (List ℕ))) (faults faults' : ℕ) → CutOff told told' h k seen p.given q.given → faults ≤ faults' → q.read_faults ≡ p.read_faults → q.write_faults ≡ p.write_faults
      → IsRun (Keeps (shelf told faults) (shelf told' faults') h k) p q NoMemory
  unfinished told told' faults faults' is grown reads writes = record { stands = (cut_told told told' is, grown); reads = reads; writes = writes }
