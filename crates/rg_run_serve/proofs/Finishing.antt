-- From the parts of a run of `serve` to the whole.
use Rattle.std.proofs.Common.{◌≡◌, ◌∙◌, ◌<◌, ◌≤◌, ◌+◌, ◌++◌, ℕ, zero, suc, true, false, List, [], ◌∷◌, length, take, Option, Some, None, append_assoc, append-nil, zero-add, arith, inl, inr, refl, ap, sym, subst}
use Rattle.rg_base.specs.declared.numbers.Moment.{Moment}
use Rattle.rg_turn.specs.History.{IsLegal}
use Rattle.rg_turn.proofs.Histories.{begins_length}
use Rattle.rg_admin_laws.specs.Steps.{step}
use Rattle.rg_serve.specs.Right.{AreDownloadedFor, AreRightFor}
use Rattle.rg_serve.specs.Opened.{Opened}
use Rattle.rg_serve.specs.Served.{IsCurrent}
use Rattle.rg_run_script.specs.declared.status.Status.{Status}
use Rattle.rg_run_script.specs.declared.status.Status.TheVariants.{Done, Usage, BadLine, ReadFault, WriteFault, NetFault, TooLong, KeepFault, NoMemory, BadRecord}
use Rattle.rg_run_script.specs.Follow.{Output}
use Rattle.rg_run_script.specs.Limits.{is_too_long}
use Rattle.rg_run_serve.specs.Links.{AreServed, IsStopped, TellsTotals}
use Rattle.rg_run_script.specs.Ports.{Ports}
use Rattle.rg_run_serve.specs.Preparing.{IsPrepared, IsReady}
use Rattle.rg_run_script.specs.Runs.{Follows, IsRun, IsUnread}
use Rattle.rg_run_serve.specs.Serves.{IsTakenWhole, ServesLinks}
use Rattle.rg_run_serve.specs.Serve.{AreTotals, Asked, Asking, Door, Numbers, printed_by, printed_of, replies_to, taken, totals_line}
use Rattle.rg_run_script.specs.Streams.{IsAll, Wrote, WrotePrefix}
use Rattle.rg_run_script.proofs.Runs.{follows}

-- ---- two texts one after the other

wrote_both : (old mid new : Option (List ℕ)) (a b : List ℕ) → Wrote old mid a → Wrote mid new b → Wrote old new (a ++ b)
wrote_both None mid new a b first second = let t = rw first at second in t
wrote_both (Some held) mid new a b first second = let t = rw first at second in t ∙ ap Some (append_assoc held a b)

take_past : (a b : List ℕ) (n k : ℕ) → n ≡ length a + k → take n (a ++ b) ≡ a ++ take k b
take_past [] b n k e = ap (λ m. take m b) (e ∙ zero-add k)
take_past (x ∷ a) b zero k e = absurd (omega (arith, e))
take_past (x ∷ a) b (suc n) k e = ap (λ l. x ∷ l) (take_past a b n k (omega (arith, e)))

wrote_part : (old mid new : Option (List ℕ)) (a b : List ℕ) → Wrote old mid a → WrotePrefix mid new b → WrotePrefix old new (a ++ b)
wrote_part old mid new a b first (n, second) =
    (length a + n, subst (Wrote old new) (sym (take_past a b (length a + n) n refl)) (wrote_both old mid new a (take n b) first second))

-- ---- the statuses

pub unread_serves : (most workers : ℕ) (d : Door) (p q : Ports) (status : Status) → IsRun IsUnread p q status → IsRun (ServesLinks most workers d d) p q status
unread_serves most workers d p q ReadFault r = record { stands = ((r.stands.0, r.stands.1, refl), refl); reads = r.reads; writes = r.writes }
unread_serves most workers d p q TooLong r = record { stands = ((r.stands.0, r.stands.1, r.stands.2, refl), refl); reads = r.reads; writes = r.writes }
unread_serves most workers d p q WriteFault r = record { stands = (inl (r.stands.0, r.stands.1, r.stands.2, refl), refl); reads = r.reads; writes = r.writes }
unread_serves most workers d p q NoMemory r = record { stands = (inl (r.stands.0, refl), refl); reads = r.reads; writes = r.writes }
unread_serves most workers d p q Done r = absurd r.stands
unread_serves most workers d p q Usage r = absurd r.stands
unread_serves most workers d p q BadLine r = absurd r.stands
unread_serves most workers d p q NetFault r = absurd r.stands
unread_serves most workers d p q KeepFault r = absurd r.stands
unread_serves most workers d p q BadRecord r = absurd r.stands

module _ (most workers : ℕ) (d : Door) (p q : Ports) where
  pub out_of_memory : q.held ≡ p.held → q.read_faults ≡ p.read_faults → q.write_faults ≡ p.write_faults → IsRun (ServesLinks most workers d d) p q NoMemory
  out_of_memory held reads writes = record { stands = (inl (held, refl), refl); reads = reads; writes = writes }

  -- the bytes were read, and worked
  module _ (got seen text : List ℕ) (n : ℕ) (o : Option Opened) (all : IsAll p.left got) (ended : q.ended ≡ true) (within : is_too_long got ≡ false) (same : seen ≡ got)
      (reads : q.read_faults ≡ p.read_faults) where
    pub bad_line : IsPrepared n seen p.given q.given text None → (printed : List ℕ) → printed ≡ text → Wrote p.held q.held printed → q.write_faults ≡ p.write_faults
        → IsRun (ServesLinks most workers d d) p q BadLine
    bad_line (output, comes, bad, is) printed spelled wrote writes = record {
      stands = (
        (output, follows taken p q got seen [] output all ended within same comes, bad, subst (Wrote p.held q.held) (spelled ∙ is) wrote, refl),
        refl,
      );
      reads = reads;
      writes = writes;
    }

    pub unprinted : IsPrepared n seen p.given q.given text o → (printed : List ℕ) → printed ≡ text → WrotePrefix p.held q.held printed → p.write_faults < q.write_faults
        → IsRun (ServesLinks most workers d d) p q WriteFault
    unprinted is printed spelled wrote writes =
        let part : WrotePrefix p.held q.held text = subst (WrotePrefix p.held q.held) spelled wrote in
        record { stands = (inr (inl (from o is part)), refl); reads = reads; writes = writes }
      where
        from : (o : Option Opened) → IsPrepared n seen p.given q.given text o → WrotePrefix p.held q.held text
            → (output : Output Asking) × Follows Asking taken p q [] output × WrotePrefix p.held q.held (printed_of output) × (d ≡ d)
        from None (output, comes, bad, is) part =
            (output, follows taken p q got seen [] output all ended within same comes, subst (WrotePrefix p.held q.held) is part, refl)
        from (Some o) (a, output, comes, done, state, none, ready) part =
            let same_text : text ≡ printed_of output = ready.text_is ∙ (sym (append-nil (replies_to a))
            ∙ (ap (λ t. replies_to a ++ t) (sym none) ∙ ap (λ s. printed_by s output.text) (sym state))) in
            (output, follows taken p q got seen [] output all ended within same comes, subst (WrotePrefix p.held q.held) same_text part, refl)

-- ---- the replies were written, and links served

pub there : (workers : ℕ) (seen text : List ℕ) (clock clock' : Option (List Moment)) (found : Option Opened) (o : Opened) → found ≡ Some o
    → IsPrepared workers seen clock clock' text found → IsPrepared workers seen clock clock' text (Some o)
there workers seen text clock clock' found o is prepared = subst (IsPrepared workers seen clock clock' text) is prepared

module _ (most workers : ℕ) (d e : Door) (p q : Ports) (now : Option (List Moment)) (mid : Option (List ℕ)) (got seen text printed : List ℕ) (n : ℕ) (o : Opened)
    (all : IsAll p.left got) (ended : q.ended ≡ true) (within : is_too_long got ≡ false) (same : seen ≡ got) (reads : q.read_faults ≡ p.read_faults)
    (prepared : IsPrepared n seen p.given now text (Some o)) (as_many : n ≡ workers) (spelled : printed ≡ text) (wrote : Wrote p.held mid printed) where
  abbrev a : Asked
  a = prepared.0

  ready : IsReady a.start a.asks n o text
  ready = prepared.6

  whole : IsTakenWhole p q a
  whole = (now, prepared.1, follows taken p (record q { given = now }) got seen [] prepared.1 all ended within same prepared.2, prepared.3, prepared.4)

  replied : Wrote p.held mid (replies_to a)
  replied = subst (Wrote p.held mid) (spelled ∙ ready.text_is) wrote

  pub stopped : (status : Status) → IsStopped d.faults e.faults status → q.held ≡ mid → q.write_faults ≡ p.write_faults → IsRun (ServesLinks most workers d e) p q status
  stopped NetFault net held writes = record { stands = ((a, whole, subst (λ h. Wrote p.held h (replies_to a)) (sym held) replied), net); reads = reads; writes = writes }
  stopped NoMemory net held writes = record { stands = (inr (a, whole, subst (λ h. Wrote p.held h (replies_to a)) (sym held) replied), net); reads = reads; writes = writes }
  stopped Done net held writes = absurd net
  stopped Usage net held writes = absurd net
  stopped BadLine net held writes = absurd net
  stopped ReadFault net held writes = absurd net
  stopped WriteFault net held writes = absurd net
  stopped TooLong net held writes = absurd net
  stopped KeepFault net held writes = absurd net
  stopped BadRecord net held writes = absurd net

  no_fewer : (t : Numbers) → AreServed most o d e t → length o.published ≤ t.publications
  no_fewer t served = omega (arith, begins_length o.published served.list served.published, served.number)

  totals : (t : Numbers) → AreServed most o d e t → AreTotals most workers a d e t
  totals t served = record {
    given = served.given;
    all = served.all;
    opened = o;
    opens = record { start = ready.opens.start; from = ready.opens.from; reply = ready.opens.reply; history = ready.opens.history; calls = ready.opens.calls };
    workers_are = ready.workers_are ∙ as_many;
    past = served.past;
    counts = served.counts;
    legal = subst (λ x. IsLegal step x served.past) ready.opens.start served.legal;
    begins = served.begins;
    list = served.list;
    number = served.number;
    published = served.published;
    right = subst (λ x. AreRightFor x served.past served.list) ready.opens.start served.right;
    made = subst (λ x. AreDownloadedFor x served.past served.list) ready.opens.start served.made;
    current = subst (λ x. IsCurrent x served.past served.list) ready.opens.start served.current;
    served = served.served;
    entries = omega (arith, ready.entries, served.entries);
    few = served.few;
    some = omega (arith, ready.some, no_fewer t served);
    raised = λ raised. omega (arith, ready.raised raised, no_fewer t served);
  }

  pub finished : (last told : List ℕ) → TellsTotals most o d e last → told ≡ last → Wrote mid q.held told → q.write_faults ≡ p.write_faults → IsRun (ServesLinks most workers d e) p q Done
  finished last told (t, is, served) spells wrote_last writes = record {
    stands = (
      (a, t, whole, totals t served, wrote_both p.held mid q.held (replies_to a) (totals_line t) replied (subst (Wrote mid q.held) (spells ∙ is) wrote_last)),
      served.faults,
    );
    reads = reads;
    writes = writes;
  }

  pub unfinished : (last told : List ℕ) → TellsTotals most o d e last → told ≡ last → WrotePrefix mid q.held told → p.write_faults < q.write_faults → IsRun (ServesLinks most workers d e) p q WriteFault
  unfinished last told (t, is, served) spells wrote_last writes = record {
    stands = (
      inr (inr (a, t, whole, totals t served, wrote_part p.held mid q.held (replies_to a) (totals_line t) replied (subst (WrotePrefix mid q.held) (spells ∙ is) wrote_last))),
      served.faults,
    );
    reads = reads;
    writes = writes;
  }
