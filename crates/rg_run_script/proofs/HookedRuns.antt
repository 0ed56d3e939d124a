-- From the parts of a run with hooks to the whole.
use Rattle.std.proofs.Common.{◌≡◌, ◌⊎◌, ◌∙◌, ◌<◌, ℕ, List, [], true, false, inl, inr, refl, sym, subst}
use Rattle.rg_base.specs.declared.numbers.Moment.{Moment}
use Rattle.rg_run_script.specs.declared.status.Status.{Status}
use Rattle.rg_run_script.specs.declared.status.Status.TheVariants.{Done, Usage, BadLine, ReadFault, WriteFault, NetFault, TooLong, KeepFault, NoMemory, BadRecord}
use Rattle.rg_run_script.specs.Follow.{Comes, Decided, Output, Script}
use Rattle.rg_run_script.specs.Hooked.{AreAudited, AreAuditedInPart, Hooks}
use Rattle.rg_run_script.specs.Limits.{is_too_long}
use Rattle.rg_run_script.specs.Ports.{Ports}
use Rattle.rg_run_script.specs.Runs.{Follows, IsRun, IsUnread, Stands, StandsHooked}
use Rattle.rg_run_script.specs.Streams.{IsAll, Wrote, WrotePrefix}
use Rattle.rg_run_script.proofs.Runs.{follows, steady}

-- nothing was worked
pub unread_hooked : {S : Type 0} (script : Script S) (h k : Hooks) (p q : Ports) (status : Status) → k ≡ h → IsRun IsUnread p q status → IsRun (StandsHooked S script h k) p q status
unread_hooked script h k p q ReadFault same r = record { stands = (r.stands.0, r.stands.1, same); reads = r.reads; writes = r.writes }
unread_hooked script h k p q TooLong same r = record { stands = (r.stands.0, r.stands.1, r.stands.2, same); reads = r.reads; writes = r.writes }
unread_hooked script h k p q WriteFault same r = record { stands = inl (r.stands.0, r.stands.1, r.stands.2, same); reads = r.reads; writes = r.writes }
unread_hooked script h k p q NoMemory same r = record { stands = (r.stands.0, inl (r.stands.1, same)); reads = r.reads; writes = r.writes }
unread_hooked script h k p q Done same r = absurd r.stands
unread_hooked script h k p q Usage same r = absurd r.stands
unread_hooked script h k p q BadLine same r = absurd r.stands
unread_hooked script h k p q NetFault same r = absurd r.stands
unread_hooked script h k p q KeepFault same r = absurd r.stands
unread_hooked script h k p q BadRecord same r = absurd r.stands

-- the output stands, with its own status
stood_hooked : {S : Type 0} (script : Script S) (h k : Hooks) (p q : Ports) (output : Output S) (status : Status) → Follows S script p q [] output → Wrote p.held q.held output.text
    → output.status ≡ status → AreAudited output.decided h k → (status ≡ Done) ⊎ (status ≡ BadLine) → StandsHooked S script h k p q status
stood_hooked {S = S} script h k p q output status f w e a (inl done) = subst (λ s. StandsHooked S script h k p q s) (sym done) (output, f, w, e ∙ done, a)
stood_hooked {S = S} script h k p q output status f w e a (inr bad) = subst (λ s. StandsHooked S script h k p q s) (sym bad) (output, f, w, e ∙ bad, a)

-- all was read and worked
module _ {S : Type 0} (script : Script S) (h k : Hooks) (p q : Ports) (got seen : List ℕ) (all : IsAll p.left got) (ended : q.ended ≡ true) (within : is_too_long got ≡ false)
    (same : seen ≡ got) (reads : q.read_faults ≡ p.read_faults) where
  abbrev pub Heard_to : List ℕ → Status → S → Type 0
  Heard_to text status state =
      (decided : List Decided) × Comes S script seen p.given q.given [] (record { text = text; status = status; state = state; decided = decided }) × AreAudited decided h k

  pub written_hooked : (text printed : List ℕ) (status : Status) (state : S) → Heard_to text status state → printed ≡ text → Wrote p.held q.held printed
      → (status ≡ Done) ⊎ (status ≡ BadLine) → q.write_faults ≡ p.write_faults → IsRun (StandsHooked S script h k) p q status
  written_hooked text printed status state d spelled wrote end writes =
      let output : Output S = record { text = text; status = status; state = state; decided = d.0 } in
      let counts = steady p q status end reads writes in
      record {
        stands = stood_hooked script h k p q output status (follows script p q got seen [] output all ended within same d.1) (subst (Wrote p.held q.held) spelled wrote) refl d.2 end;
        reads = counts.0;
        writes = counts.1;
      }

  pub broken_hooked : (text printed : List ℕ) (status : Status) (state : S) → Heard_to text status state → printed ≡ text → WrotePrefix p.held q.held printed
      → p.write_faults < q.write_faults → IsRun (StandsHooked S script h k) p q WriteFault
  broken_hooked text printed status state d spelled wrote writes =
      let output : Output S = record { text = text; status = status; state = state; decided = d.0 } in
      record {
        stands = inr (output, follows script p q got seen [] output all ended within same d.1, subst (WrotePrefix p.held q.held) spelled wrote, d.2);
        reads = reads;
        writes = writes;
      }

  pub unfinished_hooked : (later : List Moment) × (output : Output S) × Comes S script seen p.given q.given later output × AreAuditedInPart output.decided h k
      → q.held ≡ p.held → q.write_faults ≡ p.write_faults → IsRun (StandsHooked S script h k) p q NoMemory
  unfinished_hooked cut unwritten writes = record {
    stands = (unwritten, inr (cut.0, cut.1, follows script p q got seen cut.0 cut.1 all ended within same cut.2, cut.3));
    reads = reads;
    writes = writes;
  }

-- with no word on the hooks it is a run as any other
stands_alone : {S : Type 0} (script : Script S) (h k : Hooks) (p q : Ports) (status : Status) → StandsHooked S script h k p q status → Stands S script p q status
stands_alone script h k p q Done s = (s.0, s.1, s.2, s.3)
stands_alone script h k p q BadLine s = (s.0, s.1, s.2, s.3)
stands_alone script h k p q ReadFault s = (s.0, s.1)
stands_alone script h k p q TooLong s = (s.0, s.1, s.2)
stands_alone script h k p q WriteFault (inl s) = inl (s.0, s.1, s.2)
stands_alone script h k p q WriteFault (inr s) = inr (s.0, s.1, s.2)
stands_alone script h k p q NoMemory (held, inl s) = (held, inl s.0)
stands_alone script h k p q NoMemory (held, inr s) = (held, inr (s.0, s.1, s.2))
stands_alone script h k p q Usage s = absurd s
stands_alone script h k p q NetFault s = absurd s
stands_alone script h k p q KeepFault s = absurd s
stands_alone script h k p q BadRecord s = absurd s

pub run_alone : {S : Type 0} (script : Script S) (h k : Hooks) (p q : Ports) (status : Status) → IsRun (StandsHooked S script h k) p q status → IsRun (Stands S script) p q status
run_alone script h k p q status r = record { stands = stands_alone script h k p q status r.stands; reads = r.reads; writes = r.writes }
