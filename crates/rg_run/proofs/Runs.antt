-- From a run of each command to the whole.
use Rattle.std.proofs.Common.{◌≡◌, ◌⊎◌, arith, ℕ, List, [], Bool, true, false, Option, Some, None, inl, inr, refl, sym, subst}
use Rattle.rg_run_script.specs.declared.status.Status.{Status}
use Rattle.rg_run_script.specs.declared.status.Status.TheVariants.{Done, Usage, BadLine, ReadFault, WriteFault, NetFault, TooLong, KeepFault, NoMemory, BadRecord}
use Rattle.rg_run_script.specs.Limits.{is_too_long}
use Rattle.rg_run_script.specs.Ports.{Ports, ports}
use Rattle.rg_run_script.specs.Runs.{IsRun, Overran, StandsHooked}
use Rattle.rg_run_script.specs.Statuses.{number_of}
use Rattle.rg_run_script.proofs.HookedRuns.{run_alone}
use Rattle.rg_run_script.proofs.Hooks.{audited_none}
use Rattle.rg_run_script.proofs.Runs.{completes, in_limits}
use Rattle.rg_run_script.specs.Follow.{worked}
use Rattle.rg_run_script.specs.Hooked.{Hooked, Hooks, hooked, hooks_of, with_enrichers}
use Rattle.rg_run_grants.specs.Grants.{State, grants, grants_step}
use Rattle.rg_run_replay.specs.Replay.{replayed_with}
use Rattle.rg_run_report.specs.Report.{reported}
use Rattle.rg_run_serve.specs.Serve.{Door, door}
use Rattle.rg_run_serve.specs.Serves.{ServesLinks}
use Rattle.rg_run_keep.specs.Custody.{ByRecords, Keeps, Shelf, shelf}
use Rattle.rg_run.specs.declared.command.Command.{Command}
use Rattle.rg_run.specs.declared.command.Command.TheVariants.{Replay, Serve, Drill, Grants, Report, Keep}
use Rattle.rg_run.specs.Commands.{takes_keeper}
use Rattle.rg_run.specs.Runs.{Answers, Around, IsEndOf, around}

-- ---- the keeper's records

-- memory was refused before anything was done
unkept : (told : Option (List (List ℕ))) (h : Hooks) (p : Ports) → ByRecords told told h h p p NoMemory
unkept None h p = (refl, (refl, ([], record { audited = []; ran = h.enrichers; first = ([], refl); after = audited_none h; run = inl refl })))
unkept (Some found) h p = (found, refl, (refl, inl (refl, refl, refl)))

overran : (told now : Option (List (List ℕ))) (h k : Hooks) (p q : Ports) → ByRecords told now h k p q TooLong → Overran p.left q.left
overran None now h k p q by = by.1.0
overran (Some found) now h k p q by = by.2.0

no_usage : (told now : Option (List (List ℕ))) (h k : Hooks) (p q : Ports) → ByRecords told now h k p q Usage → ⊥
no_usage None now h k p q by = by.1
no_usage (Some found) now h k p q by = by.2

no_links : (told now : Option (List (List ℕ))) (h k : Hooks) (p q : Ports) → ByRecords told now h k p q NetFault → ⊥
no_links None now h k p q by = by.1
no_links (Some found) now h k p q by = by.2

-- ---- a run of each command

-- memory was refused before anything was done
pub undone : (workers : ℕ) (a : Around) (command : Option Command) (p : Ports) → IsRun (Answers workers a a command) p p NoMemory
undone workers a None p = record { stands = refl; reads = refl; writes = refl }
undone workers a (Some Replay) p = record { stands = (refl, inl (refl, refl)); reads = refl; writes = refl }
undone workers a (Some (Serve address links)) p = record { stands = (inl (refl, refl), refl); reads = refl; writes = refl }
undone workers a (Some (Drill seed policies requests)) p = record { stands = refl; reads = refl; writes = refl }
undone workers a (Some Grants) p = record { stands = (refl, inl (refl, refl)); reads = refl; writes = refl }
undone workers a (Some Report) p = record { stands = (refl, inl refl); reads = refl; writes = refl }
undone workers a (Some Keep) p = record { stands = (unkept a.shelf.records a.hooks p, omega arith); reads = refl; writes = refl }

-- how a command ends that nothing failed: with a bad record where it takes the keeper alone
abbrev pub Ends : Bool → ℕ → Type 0
Ends takes n = (n ≡ 0) ⊎ ((n ≡ 2) ⊎ ((n ≡ 9) ⊎ ((takes ≡ true) × (n ≡ 10))))

any_ends : (takes : Bool) (n : ℕ) → (n ≡ 0) ⊎ ((n ≡ 2) ⊎ (n ≡ 9)) → Ends takes n
any_ends takes n (inl e) = inl e
any_ends takes n (inr (inl e)) = inr (inl e)
any_ends takes n (inr (inr e)) = inr (inr (inl e))

-- a drill whose sink doesn't fail is carried out, or lacks memory
drilled : (takes : Bool) (a b : Around) (seed policies requests : ℕ) (p q : Ports) (n : ℕ) (status : Status) → n ≡ number_of status
    → IsRun (Answers 0 a b (Some (Drill seed policies requests))) p q status → q.write_faults ≡ p.write_faults → Ends takes n
drilled takes a b seed policies requests p q n Done e run writes = inl e
drilled takes a b seed policies requests p q n NoMemory e run writes = inr (inr (inl e))
drilled takes a b seed policies requests p q n WriteFault e run writes = absurd (omega (arith, run.writes))
drilled takes a b seed policies requests p q n BadLine e run writes = absurd run.stands
drilled takes a b seed policies requests p q n ReadFault e run writes = absurd run.stands
drilled takes a b seed policies requests p q n TooLong e run writes = absurd run.stands
drilled takes a b seed policies requests p q n Usage e run writes = absurd run.stands
drilled takes a b seed policies requests p q n NetFault e run writes = absurd run.stands
drilled takes a b seed policies requests p q n KeepFault e run writes = absurd run.stands
drilled takes a b seed policies requests p q n BadRecord e run writes = absurd run.stands

module _ (p q : Ports) (n : ℕ) (bytes : List ℕ) (reads : q.read_faults ≡ p.read_faults) (writes : q.write_faults ≡ p.write_faults)
    (told : p.left ≡ Some bytes) (within : is_too_long bytes ≡ false) where
  -- links that were asked for were served, or memory was refused, or a line is bad
  served : (takes : Bool) (most workers : ℕ) (d e : Door) (status : Status) → n ≡ number_of status → IsRun (ServesLinks most workers d e) p q status → e.faults ≡ d.faults → Ends takes n
  served takes most workers d e Done is run links = inl is
  served takes most workers d e BadLine is run links = inr (inl is)
  served takes most workers d e NoMemory is run links = inr (inr (inl is))
  served takes most workers d e ReadFault is run links = absurd (omega (arith, run.reads))
  served takes most workers d e WriteFault is run links = absurd (omega (arith, run.writes))
  served takes most workers d e NetFault is run links = absurd (omega (arith, run.stands.1))
  served takes most workers d e TooLong is run links = absurd (in_limits p.left q.left bytes told within run.stands.0.0)
  served takes most workers d e Usage is run links = absurd run.stands.0
  served takes most workers d e KeepFault is run links = absurd run.stands.0
  served takes most workers d e BadRecord is run links = absurd run.stands.0

  -- a script of a kept administration was worked, or memory was refused, or a record is bad
  kept : (s t : Shelf) (h k : Hooks) (status : Status) → n ≡ number_of status → IsRun (Keeps s t h k) p q status → t.faults ≡ s.faults → Ends true n
  kept s t h k Done is run keeper = inl is
  kept s t h k BadLine is run keeper = inr (inl is)
  kept s t h k NoMemory is run keeper = inr (inr (inl is))
  kept s t h k BadRecord is run keeper = inr (inr (inr (refl, is)))
  kept s t h k ReadFault is run keeper = absurd (omega (arith, run.reads))
  kept s t h k WriteFault is run keeper = absurd (omega (arith, run.writes))
  kept s t h k KeepFault is run keeper = absurd (omega (arith, run.stands.1))
  kept s t h k TooLong is run keeper = absurd (in_limits p.left q.left bytes told within (overran s.records t.records h k p q run.stands.0))
  kept s t h k Usage is run keeper = absurd (no_usage s.records t.records h k p q run.stands.0)
  kept s t h k NetFault is run keeper = absurd (no_links s.records t.records h k p q run.stands.0)

  -- for each command
  pub completed : (workers : ℕ) (a b : Around) (asked : Option Command) (command : Command) (status : Status) → asked ≡ Some command → n ≡ number_of status
      → IsRun (Answers workers a b asked) p q status → b.door.faults ≡ a.door.faults → b.shelf.faults ≡ a.shelf.faults → Ends (takes_keeper asked) n
  completed workers a b (Some Replay) command status named is run links keeper = any_ends false n
      (completes (replayed_with a.hooks.enrichers) p q n status bytes is (run_alone (replayed_with a.hooks.enrichers) a.hooks b.hooks p q status run) reads writes told within)
  completed workers a b (Some Grants) command status named is run links keeper = any_ends false n
      (completes (grants a.hooks.enrichers) p q n status bytes is (run_alone (grants a.hooks.enrichers) a.hooks b.hooks p q status run) reads writes told within)
  completed workers a b (Some Report) command status named is run links keeper = any_ends false n (completes reported p q n status bytes is run reads writes told within)
  completed workers a b (Some (Serve address most)) command status named is run links keeper = served false most workers a.door b.door status is run links
  completed workers a b (Some (Drill seed policies requests)) command status named is run links keeper = drilled false a b seed policies requests p q n status is run writes
  completed workers a b (Some Keep) command status named is run links keeper = kept a.shelf b.shelf a.hooks b.hooks status is run keeper
  completed workers a b None command status named is run links keeper = cc

pub ended_so : (command : Option Command) (n m : ℕ) → m ≡ n → IsEndOf command n → IsEndOf command m
ended_so command n m same is = subst (IsEndOf command) (sym same) is

-- memory was refused before the command began
pub never_begun : (command : Option Command) (n : ℕ) → n ≡ 9 → IsEndOf command n
never_begun command n is = (1, nobody, nobody, idle, idle, (NoMemory, is, undone 1 nobody command idle)) where
  nobody : Around
  nobody = around (door 0 false 0) (shelf None 0) (hooks_of [] [])

  idle : Ports
  idle = ports None false 0 None None 0

-- a run from the state that grants begin in
pub by_grants : (workers : ℕ) (a b : Around) (command : Option Command) (s : State) (p q : Ports) (status : Status)
    → command ≡ Some Grants → s ≡ None
    → IsRun (StandsHooked (Hooked State) (worked (with_enrichers grants_step) (hooked s a.hooks.enrichers) 1) a.hooks b.hooks) p q status
    → IsRun (Answers workers a b command) p q status
by_grants workers a b command s p q status is first run =
    subst (λ (c : Option Command). IsRun (Answers workers a b c) p q status) (sym is)
    (subst (λ (v : State). IsRun (StandsHooked (Hooked State) (worked (with_enrichers grants_step) (hooked v a.hooks.enrichers) 1) a.hooks b.hooks) p q status) first run)

-- links that were served by as many workers as there are hooks
pub by_workers : (workers taken : ℕ) (a b : Around) (command : Option Command) (address : List ℕ) (links : ℕ) (p q : Ports) (status : Status)
    → command ≡ Some (Serve address links) → taken ≡ workers
    → IsRun (ServesLinks links taken a.door b.door) p q status
    → IsRun (Answers workers a b command) p q status
by_workers workers taken a b command address links p q status is same run =
    subst (λ (c : Option Command). IsRun (Answers workers a b c) p q status) (sym is)
    (subst (λ (n : ℕ). IsRun (ServesLinks links n a.door b.door) p q status) same run)
