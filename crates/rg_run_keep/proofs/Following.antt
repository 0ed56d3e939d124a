-- A script of a kept administration, followed line by line.
use Rattle.std.proofs.Common.{◌≡◌, ◌≢◌, ⊎_elim, ◌∙◌, ◌+◌, ◌++◌, ℕ, List, [], ◌∷◌, Option, Some, None, inl, inr, refl, ap, ap₂, sym, subst}
use Rattle.rg_base.specs.declared.numbers.Moment.{Moment}
use Rattle.rg_hook.specs.Enriching.{EnricherState}
use Rattle.rg_ports.specs.Moments.{Told}
use Rattle.rg_run_script.specs.Lines.{lines_of}
use Rattle.rg_run_script.specs.declared.status.Status.{Status}
use Rattle.rg_run_script.specs.declared.status.Status.TheVariants.{Done, BadLine, KeepFault, BadRecord}
use Rattle.rg_run_script.specs.Follow.{Decided, IsWorked, Output, Work}
use Rattle.rg_run_script.specs.Hooked.{AreAudited, HaveRunOn, Hooked, Hooks, IsAudited, carrying, hooked, hooks_of, with_enrichers}
use Rattle.rg_run_script.specs.Printed.{quiet}
use Rattle.rg_run_script.proofs.Hooks.{audited_none, audited_on, heard_all, heard_bad}
use Rattle.rg_run_keep.specs.Custody.{AreKept, Came, IsKeptUpTo, bad_record_text}
use Rattle.rg_run_keep.specs.Keeps.{Opened, State, at, keep_step}
use Rattle.rg_run_keep.specs.Stages.{CutOff, Ended, GoesOn, IsLeft, IsNamed, MayKeep, StopsAt, line_step, spoiled}
use Rattle.rg_run_keep.specs.declared.stage.KeepStop.{KeepStop}
use Rattle.rg_run_keep.specs.declared.stage.KeepStop.TheVariants as stop
use Rattle.rg_run_keep.proofs.Fronts.{IsFront, front_comes, front_heard, front_on, front_set}
use Rattle.rg_run_keep.proofs.Growing.{Grows, OnlyAdds, found_first, grows_none, grows_on, grows_to, step_adds}

-- the script is followed up to some line, and the records are those that were found and then its own; while nothing is opened, nothing
-- is printed, added or decided
pub record IsGoing (found records : List (List ℕ)) (clock now : Option (List Moment)) (bytes text : List ℕ) (o : Option Opened) (n : ℕ) (rest : List ℕ) (h k : Hooks) : Type 0 where
  pub front : IsFront (Hooked State) (with_enrichers keep_step) (hooked (at None found) h.enrichers) clock now bytes text (hooked (at o records) k.enrichers) n rest h k
  pub grown : Grows found records
  pub unopened : o ≡ None → (text ≡ []) × (records ≡ found) × (k ≡ h)

-- so it is where the keeper tells its records at the start; one that tells nothing goes on telling nothing
abbrev pub IsUnderway : Option (List (List ℕ)) → Option (List (List ℕ)) → Option (List Moment) → Option (List Moment) → List ℕ → List ℕ → Option Opened → ℕ → List ℕ → Hooks → Hooks → Type 0
IsUnderway None told clock now bytes text o n rest h k = (told ≡ None) × ((decided : List Decided) × AreAudited decided h k)
IsUnderway (Some found) told clock now bytes text o n rest h k = (records : List (List ℕ)) × (told ≡ Some records) × IsGoing found records clock now bytes text o n rest h k

pub set_out : (told : Option (List (List ℕ))) (clock : Option (List Moment)) (bytes : List ℕ) (h : Hooks) → IsUnderway told told clock clock bytes [] None 1 bytes h h
set_out None clock bytes h = (refl, ([], audited_none h))
set_out (Some found) clock bytes h = (
  found,
  refl,
  record {
    front = front_set (with_enrichers keep_step) (hooked (at None found) h.enrichers) clock bytes h;
    grown = grows_none found;
    unopened = λ _. (refl, refl, refl);
  },
)

-- nothing was decided, so the hooks are as before
undecided : (ds : List Decided) (h k : Hooks) → ds ≡ [] → AreAudited ds h k → k ≡ h
undecided ds h k none audited = let a = subst (λ (l : List Decided). AreAudited l h k) none audited in ap₂ hooks_of a.lines a.enriched

-- ---- hooks where a script stops

left_run : (why : KeepStop) (h k : Hooks) → IsLeft why h k → (k.sinks ≡ h.sinks) × HaveRunOn h.enrichers k.enrichers
left_run stop.Bad h k same = (ap (λ (l : Hooks). l.sinks) same, inl (ap (λ (l : Hooks). l.enrichers) same))
left_run (stop.BadRecord place) h k same = (ap (λ (l : Hooks). l.sinks) same, inl (ap (λ (l : Hooks). l.enrichers) same))
left_run stop.Failed h k same = (ap (λ (l : Hooks). l.sinks) same, inl (ap (λ (l : Hooks). l.enrichers) same))
left_run stop.NoMemory h k left = left

left_named : (why : KeepStop) (h k : Hooks) (n : ℕ) (old new : List ℕ) (status : Status) → IsNamed why n old new status → IsLeft why h k → k ≡ h
left_named stop.Bad h k n old new status named same = same
left_named (stop.BadRecord place) h k n old new status named same = same
left_named stop.Failed h k n old new status named same = same
left_named stop.NoMemory h k n old new status never left = absurd never

-- ---- where the keeper tells, and a line is read at the moment m

module _ (found records : List (List ℕ)) (clock now new : Option (List Moment)) (bytes text : List ℕ) (o : Option Opened) (n : ℕ) (rest line more : List ℕ) (m : Moment) (h k : Hooks)
    (is : IsGoing found records clock now bytes text o n rest h k) (first : lines_of rest ≡ line ∷ lines_of more) (told : Told now new m) where
  -- the line was worked
  worked_adds : (o' : Option Opened) (records' : List (List ℕ)) (text' : List ℕ) (l : Hooks) (w : Work (Hooked State)) → OnlyAdds o records w → hooked (at o' records') l.enrichers ≡ w.state → text' ≡ text ++ w.text
      → AreAudited w.decided k l → Grows records records' × (o' ≡ None → (text' ≡ []) × (records' ≡ found) × (l ≡ h))
  worked_adds o' records' text' l w adds state printed audited =
      let same : records' ≡ w.state.state.records = ap (λ (t : Hooked State). t.state.records) state in (
        grows_to records w.state.state.records records' adds.grows (sym same),
        λ none.
            let here = adds.unopened (sym (ap (λ (t : Hooked State). t.state.opened) state) ∙ none) in
            let before_it = is.unopened here.0 in (
              printed ∙ (ap (λ t. t ++ w.text) before_it.0 ∙ here.1),
              same ∙ (here.2 ∙ before_it.1),
              undecided w.decided k l here.3 audited ∙ before_it.2,
            ),
      )

  line_adds : (o' : Option Opened) (records' : List (List ℕ)) (text' : List ℕ) (l : Hooks) → IsWorked (keep_step (at o records) k.enrichers line m) (hooked (at o' records') l.enrichers) text text'
      → IsAudited (keep_step (at o records) k.enrichers line m) k l → Grows records records' × (o' ≡ None → (text' ≡ []) × (records' ≡ found) × (l ≡ h))
  line_adds o' records' text' l =
      elim (keep_step (at o records) k.enrichers line m) as (λ step. keep_step (at o records) k.enrichers line m ≡ step → IsWorked step (hooked (at o' records') l.enrichers) text text'
      → IsAudited step k l → Grows records records' × (o' ≡ None → (text' ≡ []) × (records' ≡ found) × (l ≡ h))) [
        | None ↦ λ e never audited. absurd never
        | Some w ↦ λ e so audited. worked_adds o' records' text' l w (step_adds o records k.enrichers line m w e) so.0 so.1 audited
      ] refl

  goes_further : (o' : Option Opened) (records' : List (List ℕ)) (text' : List ℕ) (l : Hooks) → IsWorked (keep_step (at o records) k.enrichers line m) (hooked (at o' records') l.enrichers) text text'
      → IsAudited (keep_step (at o records) k.enrichers line m) k l → IsGoing found records' clock new bytes text' o' (n + 1) more h l
  goes_further o' records' text' l so audited =
      let adds = line_adds o' records' text' l so audited in
      record {
        front = front_on (with_enrichers keep_step) (hooked (at None found) h.enrichers) clock now bytes text (hooked (at o records) k.enrichers) n rest h k is.front new line more m first told
            text' (hooked (at o' records') l.enrichers) l so audited;
        grown = grows_on found records records' is.grown adds.0;
        unopened = adds.1;
      }

  -- the script stops at the line
  stopped_with : (now' : List (List ℕ)) → Grows found now' → AreKept (at o records) (keep_step (at o records) k.enrichers line m) now' → IsKeptUpTo found now' h k bytes clock new text
  stopped_with now' grown kept = record {
    line = line;
    moment = m;
    front = record { text = text; status = Done; state = hooked (at o records) k.enrichers; decided = is.front.decided };
    comes = front_comes (with_enrichers keep_step) (hooked (at None found) h.enrichers) clock now bytes text (hooked (at o records) k.enrichers) n rest h k is.front new line more m first told;
    printed = refl;
    found_first = found_first found now' grown;
    kept = kept;
    audited = is.front.audited;
  }

  abbrev StopsWith : Option (List (List ℕ)) → Type 0
  StopsWith told' = (now' : List (List ℕ)) × (told' ≡ Some now') × IsKeptUpTo found now' h k bytes clock new text

  cut : (told' : Option (List (List ℕ))) → MayKeep records (keep_step (at o records) k.enrichers line m) told' → StopsWith told'
  cut told' may = ⊎_elim
      (λ (same : told' ≡ Some records). (let c : StopsWith told' = (records, same, stopped_with records is.grown (inl refl)) in c))
      (λ (kept : (w : Work (Hooked State)) × (keep_step (at o records) k.enrichers line m ≡ Some w) × (told' ≡ Some w.state.state.records)).
      (let c : StopsWith told' = (
        kept.0.state.state.records,
        kept.2,
        stopped_with kept.0.state.state.records (grows_on found records kept.0.state.state.records is.grown (step_adds o records k.enrichers line m kept.0 kept.1).grows)
            (inr (kept.0, kept.1, refl)),
      )
      in c))
      may

  -- it finds a bad record
  finds : (place : ℕ) → o ≡ None → keep_step (at o records) k.enrichers line m ≡ Some (carrying k.enrichers (quiet (spoiled records place)))
      → Came found records h k bytes clock new (text ++ bad_record_text place) BadRecord
  finds place none step =
      let before_it = is.unopened none in (
        place,
        record {
          line = line;
          moment = m;
          front = record { text = text; status = Done; state = hooked (at o records) k.enrichers; decided = is.front.decided };
          comes = front_comes (with_enrichers keep_step) (hooked (at None found) h.enrichers) clock now bytes text (hooked (at o records) k.enrichers) n rest h k is.front new line more m first told;
          work = carrying k.enrichers (quiet (spoiled records place));
          worked = step;
          bad = refl;
          untouched = (before_it.1, before_it.2);
        },
        ap (λ t. t ++ bad_record_text place) before_it.0,
      )

  -- a bad line
  bad_line : (text' : List ℕ) (status : Status) → keep_step (at o records) k.enrichers line m ≡ None → IsNamed stop.Bad n text text' status → Came found records h k bytes clock new text' BadLine
  bad_line text' status bad (named, printed) =
      let r = heard_bad (with_enrichers keep_step) (hooked (at None found) h.enrichers) clock now new bytes text (hooked (at o records) k.enrichers) n rest line more m h k
      (front_heard (with_enrichers keep_step) (hooked (at None found) h.enrichers) clock now bytes text (hooked (at o records) k.enrichers) n rest h k is.front) first told
      text' (hooked (at o records) k.enrichers) status bad refl printed named in
      let output : Output (Hooked State) = record { text = text'; status = status; state = hooked (at o records) k.enrichers; decided = r.0 } in
      (output, r.1, refl, named, refl, refl, r.2)

  -- it stops at the line, at text that is as before
  stops_so : (why : KeepStop) (told' : Option (List (List ℕ))) (text' : List ℕ) (status : Status) → StopsAt why (Some records) (line_step o k.enrichers line m) o k.enrichers told'
      → IsNamed why n text text' status → (now' : List (List ℕ)) × (told' ≡ Some now') × Came found now' h k bytes clock new text' status
  stops_so stop.Bad told' text' status (same, bad) (named, printed) =
      (records, same, subst (Came found records h k bytes clock new text') (sym named) (bad_line text' status bad (named, printed)))
  stops_so (stop.BadRecord place) told' text' status (same, none, step) (named, printed) =
      (records, same, subst (Came found records h k bytes clock new text') (sym named) (subst (λ t. Came found records h k bytes clock new t BadRecord) (sym printed) (finds place none step)))
  stops_so stop.Failed told' text' status may (named, printed) =
      let c = cut told' may in
      (c.0, c.1, subst (Came found c.0 h k bytes clock new text') (sym named) (subst (λ t. Came found c.0 h k bytes clock new t KeepFault) (sym printed) c.2))
  stops_so stop.NoMemory told' text' status may never = absurd never

  may_keep : (why : KeepStop) (told' : Option (List (List ℕ))) → StopsAt why (Some records) (line_step o k.enrichers line m) o k.enrichers told'
      → MayKeep records (keep_step (at o records) k.enrichers line m) told'
  may_keep stop.Bad told' (same, bad) = inl same
  may_keep (stop.BadRecord place) told' (same, none, step) = inl same
  may_keep stop.Failed told' may = may
  may_keep stop.NoMemory told' may = may

  cuts_off : (why : KeepStop) (told' : Option (List (List ℕ))) (l : Hooks) → StopsAt why (Some records) (line_step o k.enrichers line m) o k.enrichers told' → IsLeft why k l
      → CutOff (Some found) told' h l bytes clock new
  cuts_off why told' l stops left =
      let c = cut told' (may_keep why told' stops) in
      let run = left_run why k l left in
      (c.0, c.1, (text, k.enrichers, subst (λ sinks. IsKeptUpTo found c.0 h (hooks_of sinks k.enrichers) bytes clock new text) (sym run.0) c.2, run.1))

-- ---- whether or not it tells

none_stops : (told told' : Option (List (List ℕ))) (why : KeepStop) (work : List (List ℕ) → Option (Work (Hooked State))) (o : Option Opened) (es : List EnricherState) → told ≡ None
    → StopsAt why told work o es told' → told' ≡ None
none_stops told told' why work o es none stops = subst (λ t. StopsAt why t work o es told') none stops

-- the text is named that is as before, unless memory was refused
named_before : (why : KeepStop) (n : ℕ) (text kept text' : List ℕ) (status : Status) → (why ≢ stop.NoMemory → kept ≡ text) → IsNamed why n kept text' status → IsNamed why n text text' status
named_before stop.Bad n text kept text' status same named = subst (λ t. IsNamed stop.Bad n t text' status) (same (λ e. cc e)) named
named_before (stop.BadRecord place) n text kept text' status same named = subst (λ t. IsNamed (stop.BadRecord place) n t text' status) (same (λ e. cc e)) named
named_before stop.Failed n text kept text' status same named = subst (λ t. IsNamed stop.Failed n t text' status) (same (λ e. cc e)) named
named_before stop.NoMemory n text kept text' status same named = absurd named

module _ (told0 told : Option (List (List ℕ))) (clock now new : Option (List Moment)) (bytes text : List ℕ) (o : Option Opened) (n : ℕ) (rest line more : List ℕ) (m : Moment) (h k : Hooks)
    (is : IsUnderway told0 told clock now bytes text o n rest h k) (first : lines_of rest ≡ line ∷ lines_of more) (gave : Told now new m) where
  pub goes_on_so : (told' : Option (List (List ℕ))) (o' : Option Opened) (text' : List ℕ) (l : Hooks) → GoesOn told (line_step o k.enrichers line m) told' o' k l text text'
      → IsUnderway told0 told' clock new bytes text' o' (n + 1) more h l
  goes_on_so told' o' text' l goes = by told0 is
    where
      by : (start : Option (List (List ℕ))) → IsUnderway start told clock now bytes text o n rest h k → IsUnderway start told' clock new bytes text' o' (n + 1) more h l
      by None (none, (ds, audited)) =
          let g = subst (λ t. GoesOn t (line_step o k.enrichers line m) told' o' k l text text') none goes in
          (g.0, (ds ++ g.1.0, audited_on ds g.1.0 h k l audited g.1.1))
      by (Some found) (records, tells, going) =
          let g = subst (λ t. GoesOn t (line_step o k.enrichers line m) told' o' k l text text') tells goes in
          (g.0, g.1, goes_further found records clock now new bytes text o n rest line more m h k going first gave o' g.0 text' l g.2 g.3)

  pub ends_at : (why : KeepStop) (told' : Option (List (List ℕ))) (kept text' : List ℕ) (status : Status) (l : Hooks) → StopsAt why told (line_step o k.enrichers line m) o k.enrichers told'
      → IsLeft why k l → (why ≢ stop.NoMemory → kept ≡ text) → IsNamed why n kept text' status → Ended told0 told' h l bytes clock new text' status
  ends_at why told' kept text' status l stops left same named =
      subst (λ (j : Hooks). Ended told0 told' h j bytes clock new text' status) (sym (left_named why k l n kept text' status named left)) (by told0 is)
    where
      by : (start : Option (List (List ℕ))) → IsUnderway start told clock now bytes text o n rest h k → Ended start told' h k bytes clock new text' status
      by None (none, (ds, audited)) = (none_stops told told' why (line_step o k.enrichers line m) o k.enrichers none stops, (ds, audited))
      by (Some found) (records, tells, going) =
          stops_so found records clock now new bytes text o n rest line more m h k going first gave why told' text' status
          (subst (λ t. StopsAt why t (line_step o k.enrichers line m) o k.enrichers told') tells stops) (named_before why n text kept text' status same named)

  pub cut_at : (why : KeepStop) (told' : Option (List (List ℕ))) (l : Hooks) → StopsAt why told (line_step o k.enrichers line m) o k.enrichers told' → IsLeft why k l
      → CutOff told0 told' h l bytes clock new
  cut_at why told' l stops left = by told0 is
    where
      by : (start : Option (List (List ℕ))) → IsUnderway start told clock now bytes text o n rest h k → CutOff start told' h l bytes clock new
      by None (none, (ds, audited)) =
          let run = left_run why k l left in (
            none_stops told told' why (line_step o k.enrichers line m) o k.enrichers none stops,
            (
              ds ++ [],
              record {
                audited = ds;
                ran = k.enrichers;
                first = ([], refl);
                after = subst (λ sinks. AreAudited ds h (hooks_of sinks k.enrichers)) (sym run.0) audited;
                run = run.1;
              },
            ),
          )
      by (Some found) (records, tells, going) =
          cuts_off found records clock now new bytes text o n rest line more m h k going first gave why told' l
          (subst (λ t. StopsAt why t (line_step o k.enrichers line m) o k.enrichers told') tells stops) left

-- ---- the end

pub ends_done : (told0 told : Option (List (List ℕ))) (clock now : Option (List Moment)) (bytes text : List ℕ) (o : Option Opened) (n : ℕ) (rest : List ℕ) (h k : Hooks)
    → IsUnderway told0 told clock now bytes text o n rest h k → rest ≡ [] → Ended told0 told h k bytes clock now text Done
ends_done None told clock now bytes text o n rest h k is none = is
ends_done (Some found) told clock now bytes text o n rest h k (records, tells, is) none =
    let f = heard_all (with_enrichers keep_step) (hooked (at None found) h.enrichers) clock now bytes text (hooked (at o records) k.enrichers) n rest h k
    (front_heard (with_enrichers keep_step) (hooked (at None found) h.enrichers) clock now bytes text (hooked (at o records) k.enrichers) n rest h k is.front) none in
    let output : Output (Hooked State) = record { text = text; status = Done; state = hooked (at o records) k.enrichers; decided = f.0 } in
    (records, tells, (output, f.1, refl, refl, refl, refl, f.2))
