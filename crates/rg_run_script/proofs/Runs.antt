-- From the parts of a run to the whole.
use Rattle.std.proofs.Common.{◌≡◌, ◌⊎◌, ◌∙◌, ◌<◌, ◌++◌, arith, ℕ, List, [], true, false, Option, Some, inl, inr, refl, sym, subst}
use Rattle.rg_base.specs.declared.numbers.Moment.{Moment}
use Rattle.rg_run_script.specs.declared.status.Status.{Status}
use Rattle.rg_run_script.specs.declared.status.Status.TheVariants.{Done, Usage, BadLine, ReadFault, WriteFault, NetFault, TooLong, KeepFault, NoMemory, BadRecord}
use Rattle.rg_run_script.specs.Follow.{Comes, Decided, Output, Script}
use Rattle.rg_run_script.specs.Limits.{is_too_long}
use Rattle.rg_run_script.specs.Ports.{Ports}
use Rattle.rg_run_script.specs.Runs.{CountsReads, CountsWrites, EndsIn, Follows, IsRun, IsUnread, Overran, Stands}
use Rattle.rg_run_script.specs.Statuses.{number_of}
use Rattle.rg_run_script.specs.Streams.{HasRead, IsAll, Wrote, WrotePrefix}
use Rattle.rg_run_script.proofs.Limits.{all_too_long}

-- the read bytes are followed
pub follows : {S : Type 0} (script : Script S) (p q : Ports) (got seen : List ℕ) (later : List Moment) (output : Output S)
    → IsAll p.left got → q.ended ≡ true → is_too_long got ≡ false → seen ≡ got → Comes S script seen p.given q.given later output
    → Follows S script p q later output
follows {S} script p q got seen later output all ended within same comes = record {
  bytes = got;
  all = all;
  ended = ended;
  within = within;
  comes = subst (λ bs. Comes S script bs p.given q.given later output) same comes;
}

-- nothing was worked
pub unread_stands : {S : Type 0} (script : Script S) (p q : Ports) (status : Status) → IsRun IsUnread p q status → IsRun (Stands S script) p q status
unread_stands script p q ReadFault r = record { stands = r.stands; reads = r.reads; writes = r.writes }
unread_stands script p q TooLong r = record { stands = r.stands; reads = r.reads; writes = r.writes }
unread_stands script p q WriteFault r = record { stands = inl r.stands; reads = r.reads; writes = r.writes }
unread_stands script p q NoMemory r = record { stands = (r.stands.0, inl r.stands.1); reads = r.reads; writes = r.writes }
unread_stands script p q Done r = absurd r.stands
unread_stands script p q Usage r = absurd r.stands
unread_stands script p q BadLine r = absurd r.stands
unread_stands script p q NetFault r = absurd r.stands
unread_stands script p q KeepFault r = absurd r.stands
unread_stands script p q BadRecord r = absurd r.stands

pub unread_ends : (p q : Ports) (status : Status) (P : Type 0) → IsRun IsUnread p q status → status ≡ Done → P
unread_ends p q status P r done = let run = subst (λ s. IsRun IsUnread p q s) done r in absurd run.stands

-- a sink that was left alone before
pub wrote_from : (old same new : Option (List ℕ)) (text : List ℕ) → same ≡ old → Wrote same new text → Wrote old new text
wrote_from old same new text is wrote = subst (λ held. Wrote held new text) is wrote

pub wrote_part_from : (old same new : Option (List ℕ)) (text : List ℕ) → same ≡ old → WrotePrefix same new text → WrotePrefix old new text
wrote_part_from old same new text is wrote = subst (λ held. WrotePrefix held new text) is wrote

pub failed_from : (old same new : ℕ) → same ≡ old → same < new → old < new
failed_from old same new is more = omega (arith, is, more)

-- the output stands, with its own status
pub stood : {S : Type 0} (script : Script S) (p q : Ports) (output : Output S) (status : Status) → Follows S script p q [] output → Wrote p.held q.held output.text
    → output.status ≡ status → (status ≡ Done) ⊎ (status ≡ BadLine) → Stands S script p q status
stood {S = S} script p q output status f w e (inl done) = subst (λ s. Stands S script p q s) (sym done) (output, f, w, e ∙ done)
stood {S = S} script p q output status f w e (inr bad) = subst (λ s. Stands S script p q s) (sym bad) (output, f, w, e ∙ bad)

pub steady : (p q : Ports) (status : Status) → (status ≡ Done) ⊎ (status ≡ BadLine) → q.read_faults ≡ p.read_faults → q.write_faults ≡ p.write_faults
    → CountsReads p q status × CountsWrites p q status
steady p q status (inl e) reads writes = subst (λ s. CountsReads p q s × CountsWrites p q s) (sym e) (reads, writes)
steady p q status (inr e) reads writes = subst (λ s. CountsReads p q s × CountsWrites p q s) (sym e) (reads, writes)

-- all was read and worked
module _ {S : Type 0} (script : Script S) (p q : Ports) (got seen : List ℕ) (all : IsAll p.left got) (ended : q.ended ≡ true) (within : is_too_long got ≡ false)
    (same : seen ≡ got) (reads : q.read_faults ≡ p.read_faults) where
  abbrev Comes_to : List ℕ → Status → S → Type 0
  Comes_to text status state = (decided : List Decided) × Comes S script seen p.given q.given [] (record { text = text; status = status; state = state; decided = decided })

  pub written : (text printed : List ℕ) (status : Status) (state : S) → Comes_to text status state → printed ≡ text → Wrote p.held q.held printed
      → (status ≡ Done) ⊎ (status ≡ BadLine) → q.write_faults ≡ p.write_faults → IsRun (Stands S script) p q status
  written text printed status state d spelled wrote end writes =
      let output : Output S = record { text = text; status = status; state = state; decided = d.0 } in
      let counts = steady p q status end reads writes in
      record {
        stands = stood script p q output status (follows script p q got seen [] output all ended within same d.1) (subst (Wrote p.held q.held) spelled wrote) refl end;
        reads = counts.0;
        writes = counts.1;
      }

  pub written_in : (text printed : List ℕ) (status : Status) (state : S) → Comes_to text status state → printed ≡ text → Wrote p.held q.held printed
      → status ≡ Done → EndsIn script p q state
  written_in text printed status state d spelled wrote done =
      let output : Output S = record { text = text; status = status; state = state; decided = d.0 } in
      (output, follows script p q got seen [] output all ended within same d.1, subst (Wrote p.held q.held) spelled wrote, done, refl)

  pub broken : (text printed : List ℕ) (status : Status) (state : S) → Comes_to text status state → printed ≡ text → WrotePrefix p.held q.held printed
      → p.write_faults < q.write_faults → IsRun (Stands S script) p q WriteFault
  broken text printed status state d spelled wrote writes =
      let output : Output S = record { text = text; status = status; state = state; decided = d.0 } in
      record {
        stands = inr (output, follows script p q got seen [] output all ended within same d.1, subst (WrotePrefix p.held q.held) spelled wrote);
        reads = reads;
        writes = writes;
      }

  pub unfinished : (later : List Moment) × (output : Output S) × Comes S script seen p.given q.given later output → q.held ≡ p.held → q.write_faults ≡ p.write_faults
      → IsRun (Stands S script) p q NoMemory
  unfinished cut unwritten writes = record {
    stands = (unwritten, inr (cut.0, cut.1, follows script p q got seen cut.0 cut.1 all ended within same cut.2));
    reads = reads;
    writes = writes;
  }

-- bytes within the limits don't overrun them
pub in_limits : (left left' : Option (List ℕ)) (bytes : List ℕ) → left ≡ Some bytes → is_too_long bytes ≡ false → Overran left left' → ⊥
in_limits left left' bytes told within o =
    let all : is_too_long bytes ≡ true = all_too_long (Some bytes) left' (o.bytes ++ o.last) (subst (λ l. HasRead l (o.bytes ++ o.last) left') told o.read) o.over in
    let wrong : true ≡ false = sym all ∙ within in absurd (let no : ⊥ = cc in no)

-- no fault and bytes within the limits leave the script's own statuses, and want of memory
pub completes : {S : Type 0} (script : Script S) (p q : Ports) (n : ℕ) (status : Status) (bytes : List ℕ) → n ≡ number_of status → IsRun (Stands S script) p q status
    → q.read_faults ≡ p.read_faults → q.write_faults ≡ p.write_faults → p.left ≡ Some bytes → is_too_long bytes ≡ false → (n ≡ 0) ⊎ ((n ≡ 2) ⊎ (n ≡ 9))
completes script p q n Done bytes e run reads writes told within = inl e
completes script p q n BadLine bytes e run reads writes told within = inr (inl e)
completes script p q n NoMemory bytes e run reads writes told within = inr (inr e)
completes script p q n ReadFault bytes e run reads writes told within = absurd (omega (arith, run.reads))
completes script p q n WriteFault bytes e run reads writes told within = absurd (omega (arith, run.writes))
completes script p q n TooLong bytes e run reads writes told within = absurd (in_limits p.left q.left bytes told within run.stands.0)
completes script p q n Usage bytes e run reads writes told within = absurd run.stands
completes script p q n NetFault bytes e run reads writes told within = absurd run.stands
completes script p q n KeepFault bytes e run reads writes told within = absurd run.stands
completes script p q n BadRecord bytes e run reads writes told within = absurd run.stands
