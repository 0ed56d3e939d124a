-- Hooks from one line to the next.
use Rattle.std.proofs.Common.{◌≡◌, ◌≤◌, ◌+◌, ◌++◌, ◌∷◌, [], inl, inr, ℕ, List, length, map, take, drop, cond, Bool, true, false, Option, Some, None, option_map, refl, ap, sym, ◌∙◌, subst, arith, append_assoc, append-nil}
use Rattle.std.proofs.lemmas.List.{map-append, take_all}
use Rattle.std.proofs.lemmas.List.Elements.{filter-append}
use Rattle.std.specs.List.{AllZip, filter}
use Rattle.std.specs.Str.{chars}
use mathlib.Core.List.{IsPrefix}
use Rattle.rg_base.specs.declared.numbers.Moment.{Moment}
use Rattle.rg_policy.specs.declared.request.AccessRequest.{AccessRequest}
use Rattle.rg_facts.specs.declared.decision.Decision.{Decision}
use Rattle.rg_ports.specs.Moments.{Told}
use Rattle.rg_script.specs.Lines.{lines_of}
use Rattle.rg_wire.specs.Printing.{audit_line}
use Rattle.rg_hook.specs.Enriching.{EnricherState, Enriching, HaveRun, enriched}
use Rattle.rg_hook.specs.Told.{IsGiven, SinkState}
use Rattle.rg_run_script.specs.declared.status.Status.{Status}
use Rattle.rg_run_script.specs.declared.status.Status.TheVariants.{Done, BadLine}
use Rattle.rg_run_script.specs.Follow.{Comes, Decided, IsWorked, Output, Step, Work, bad_line_text, before, worked}
use Rattle.rg_run_script.specs.Hooked.{AreAudited, AreAuditedInPart, AreEnriched, AreGiven, HaveRunOn, Hooked, Hooks, IsAudited, audit_lines, carrying, decided_as, hooked, hooks_of, judged, judging, IsJudged}
use Rattle.rg_run_script.proofs.Scripts.{IsFollowed, at_line, begun, ends_after, ends_somehow, finished, gave_one, stepped, stopped, went_on}

-- ---- sinks and enrichers

given_on : (xs ys : List (List ℕ)) (a b c : List (SinkState × ℕ)) → AreGiven xs a b → AreGiven ys b c → AreGiven (xs ++ ys) a c
given_on [] ys a b c x y = subst (λ s. AreGiven ys s c) x y
given_on (line ∷ xs) ys a b c x y = (x.0, x.1, given_on xs ys x.0 b c x.2 y)

lines_join : (xs ys : List Decided) → audit_lines (xs ++ ys) ≡ audit_lines xs ++ audit_lines ys
lines_join xs ys =
    let line : Decided → List ℕ = λ d. chars (audit_line d.service d.request d.decision) in
    let is_audited : Decided → Bool = λ d. d.decision.audited in
    ap (map line) (filter-append is_audited xs ys) ∙ map-append line (filter is_audited xs) (filter is_audited ys)

enriched_on : (es : List EnricherState) (xs ys : List Decided) (fs gs : List EnricherState) → AreEnriched es xs fs → AreEnriched fs ys gs → AreEnriched es (xs ++ ys) gs
enriched_on es [] ys fs gs x y = subst (λ s. AreEnriched s ys gs) x y
enriched_on es (d ∷ xs) ys fs gs x y = (x.0, enriched_on (enriched es d.asked).enrichers xs ys fs gs x.1 y)

pub audited_on : (xs ys : List Decided) (h k l : Hooks) → AreAudited xs h k → AreAudited ys k l → AreAudited (xs ++ ys) h l
audited_on xs ys h k l x y = record {
  lines = subst (λ lines. AreGiven lines h.sinks l.sinks) (sym (lines_join xs ys)) (given_on (audit_lines xs) (audit_lines ys) h.sinks k.sinks l.sinks x.lines y.lines);
  enriched = enriched_on h.enrichers xs ys k.enrichers l.enrichers x.enriched y.enriched;
}

-- hooks that tell the same
pub audited_as : (ds : List Decided) (h k l : Hooks) → AreAudited ds h k → l.sinks ≡ k.sinks → l.enrichers ≡ k.enrichers → AreAudited ds h l
audited_as ds h k l a sinks enrichers = record {
  lines = subst (λ s. AreGiven (audit_lines ds) h.sinks s) (sym sinks) a.lines;
  enriched = subst (λ es. AreEnriched h.enrichers ds es) (sym enrichers) a.enriched;
}

-- nothing was decided
pub audited_none : (h : Hooks) → AreAudited [] h h
audited_none h = record { lines = refl; enriched = refl }

line_if : (d : Decided) (b : Bool) → d.decision.audited ≡ b → audit_lines (d ∷ []) ≡ cond b (chars (audit_line d.service d.request d.decision) ∷ []) []
line_if d true e = ap (λ b. map (λ (x : Decided). chars (audit_line x.service x.request x.decision)) (cond b (d ∷ []) [])) e
line_if d false e = ap (λ b. map (λ (x : Decided). chars (audit_line x.service x.request x.decision)) (cond b (d ∷ []) [])) e

-- a decision that isn't audited gives no line
pub unaudited : (service : List ℕ) (asked request : AccessRequest) (decision : Decision) (sinks : List (SinkState × ℕ)) → decision.audited ≡ false
    → AreGiven (audit_lines (decided_as service asked request decision ∷ [])) sinks sinks
unaudited service asked request decision sinks e =
    subst (λ lines. AreGiven lines sinks sinks) (sym (line_if (decided_as service asked request decision) false e)) refl

-- one that is audited gives its line
pub audited_one : (service : List ℕ) (asked request : AccessRequest) (decision : Decision) (old new : List (SinkState × ℕ)) → decision.audited ≡ true
    → AllZip (IsGiven (chars (audit_line service request decision))) old new → AreGiven (audit_lines (decided_as service asked request decision ∷ [])) old new
audited_one service asked request decision old new e given =
    subst (λ lines. AreGiven lines old new) (sym (line_if (decided_as service asked request decision) true e)) (new, given, refl)

drop_all : {A : Type 0} (xs : List A) → drop (length xs) xs ≡ []
drop_all [] = refl
drop_all (x ∷ xs) = drop_all xs

-- all enrichers have run
pub all_ran : (es : List EnricherState) (q : AccessRequest) (fs : List EnricherState) (r : AccessRequest) → enriched es q ≡ record { enrichers = fs; request = r } → HaveRunOn es fs
all_ran es q fs r e = inr (
  q,
  record {
    n = length es;
    within = omega arith;
    states = sym (
        ap (λ l. (enriched l q).enrichers ++ drop (length es) es) (take_all (length es) es (omega arith))
        ∙ ap (λ l. (enriched es q).enrichers ++ l) (drop_all es)
        ∙ append-nil (enriched es q).enrichers
        ∙ ap (λ (x : Enriching). x.enrichers) e
        );
  },
)

-- ---- a line that decides nothing

module _ {S : Type 0} where
  pub carried : (o : Option (Work S)) (s : S) (es : List EnricherState) (old new : List ℕ) → IsWorked o s old new → IsWorked (option_map (carrying es) o) (hooked s es) old new
  carried None s es old new never = absurd never
  carried (Some w) s es old new (state, text) = (ap (λ t. hooked t es) state, text)

  -- and prints nothing
  pub carried_silent : (o : Option (Work S)) (s : S) (es : List EnricherState) (text : List ℕ) → IsWorked o s [] [] → IsWorked (option_map (carrying es) o) (hooked s es) text text
  carried_silent None s es text never = absurd never
  carried_silent (Some w) s es text (state, none) = (ap (λ t. hooked t es) state, sym (append-nil text) ∙ ap (λ t. text ++ t) none)

  pub carries_hooks : (o : Option (Work S)) (es : List EnricherState) (h : Hooks) → IsAudited (option_map (carrying es) o) h h
  carries_hooks None es h = tt
  carries_hooks (Some w) es h = audited_none h

  pub carries_bad : (o : Option (Work S)) (es : List EnricherState) → o ≡ None → option_map (carrying es) o ≡ None
  carries_bad o es none = ap (option_map (carrying es)) none

-- ---- all lines

-- the script is followed up to a line, and the hooks stand as its decisions so far leave them
pub record IsHeard (S : Type 0) (step : Step S) (start : S) (old now : Option (List Moment)) (bytes text : List ℕ) (s : S) (n : ℕ) (rest : List ℕ) (h k : Hooks) : Type 0 where
  pub followed : IsFollowed S step start old now bytes text s n rest
  pub audited : AreAudited followed.decided h k

pub heard_first : {S : Type 0} (step : Step S) (start : S) (old : Option (List Moment)) (bytes : List ℕ) (h : Hooks) → IsHeard S step start old old bytes [] start 1 bytes h h
unfolding begun
heard_first step start old bytes h = record { followed = begun step start old bytes; audited = audited_none h }

none_more : (ds : List Decided) (h k : Hooks) → AreAudited ds h k → AreAudited (ds ++ []) h k
none_more ds h k a = subst (λ all. AreAudited all h k) (sym (append-nil ds)) a

module _ {S : Type 0} (step : Step S) (start : S) (old now new : Option (List Moment)) (bytes text : List ℕ) (s : S) (n : ℕ) (rest line more : List ℕ) (m : Moment) (h k : Hooks)
    (is : IsHeard S step start old now bytes text s n rest h k) (first : lines_of rest ≡ line ∷ lines_of more) (told : Told now new m) where
  pub heard_on : (text' : List ℕ) (s' : S) (l : Hooks) → IsWorked (step s line m) s' text text' → IsAudited (step s line m) k l
      → IsHeard S step start old new bytes text' s' (n + 1) more h l
  unfolding went_on
  heard_on text' s' l =
      elim (step s line m) as (λ o. step s line m ≡ o → IsWorked o s' text text' → IsAudited o k l → IsHeard S step start old new bytes text' s' (n + 1) more h l) [
        | None ↦ λ e no audited. absurd no
        | Some w ↦ λ e so audited. record {
          followed = went_on step start old now new bytes text s n rest line more m is.followed first told text' s' w e so.0 so.1;
          audited = audited_on is.followed.decided w.decided h k l is.audited audited;
        }
      ] refl

  pub heard_bad : (text' : List ℕ) (s' : S) (status : Status) → step s line m ≡ None → s' ≡ s → text' ≡ text ++ bad_line_text n → status ≡ BadLine
      → (decided : List Decided) × Comes S (worked step start 1) bytes old new [] (record { text = text'; status = status; state = s'; decided = decided }) × AreAudited decided h k
  unfolding stopped
  heard_bad text' s' status bad same printed named =
      let r = stopped step start old now new bytes text s n rest line more m is.followed first told text' s' status bad same printed named in
      (is.followed.decided ++ [], r.1, none_more is.followed.decided h k is.audited)

  -- it is cut off at the line, after which the sinks are as before
  pub heard_in_part : (l : Hooks) → l.sinks ≡ k.sinks → HaveRunOn k.enrichers l.enrichers
      → (later : List Moment) × (output : Output S) × Comes S (worked step start 1) bytes old new later output × AreAuditedInPart output.decided h l
  heard_in_part l sinks run =
      let r = ends_after step s n line (lines_of more) m (λ t. ends_somehow step t (n + 1) (lines_of more)) in (
        r.0,
        before text is.followed.decided r.1,
        record {
          moments = is.followed.moments ++ m ∷ [];
          given = gave_one old now new is.followed.moments m is.followed.given told;
          defined = at_line step start old now new bytes text s n rest line more m is.followed first told r.0 ∙ ap (option_map (before text is.followed.decided)) r.2;
        },
        record {
          audited = is.followed.decided;
          ran = k.enrichers;
          first = (r.1.decided, refl);
          after = subst (λ s. AreAudited is.followed.decided h (hooks_of s k.enrichers)) (sym sinks) is.audited;
          run = run;
        },
      )

pub heard_all : {S : Type 0} (step : Step S) (start : S) (old now : Option (List Moment)) (bytes text : List ℕ) (s : S) (n : ℕ) (rest : List ℕ) (h k : Hooks)
    → IsHeard S step start old now bytes text s n rest h k → rest ≡ []
    → (decided : List Decided) × Comes S (worked step start 1) bytes old now [] (record { text = text; status = Done; state = s; decided = decided }) × AreAudited decided h k
unfolding finished
heard_all step start old now bytes text s n rest h k is none =
    let r = finished step start old now bytes text s n rest is.followed none in
    (is.followed.decided ++ [], r.1, none_more is.followed.decided h k is.audited)

-- ---- a line that decides

module _ {S : Type 0} (s : S) (service : List ℕ) (decide : AccessRequest → Option Decision) (q : AccessRequest) (h k : Hooks) (old new : List ℕ)
    (is : IsJudged service decide q h k old new) where
  same_request : (enriched h.enrichers q).request ≡ is.request
  same_request = ap (λ (x : Enriching). x.request) is.enriched

  same_enrichers : k.enrichers ≡ (enriched h.enrichers q).enrichers
  same_enrichers = sym (ap (λ (x : Enriching). x.enrichers) is.enriched)

  does : judged s service h.enrichers decide q ≡ Some (judging s service h.enrichers q is.decision)
  does = ap (option_map (judging s service h.enrichers q)) (ap decide same_request ∙ is.decided)

  pub judged_worked : IsWorked (judged s service h.enrichers decide q) (hooked s k.enrichers) old new
  judged_worked = subst (λ o. IsWorked o (hooked s k.enrichers) old new) (sym does) (ap (hooked s) same_enrichers, is.printed)

  pub judged_audited : IsAudited (judged s service h.enrichers decide q) h k
  judged_audited = subst (λ o. IsAudited o h k) (sym does) (record {
    lines = subst (λ r. AreGiven (audit_lines (decided_as service q r is.decision ∷ [])) h.sinks k.sinks) (sym same_request) is.given;
    enriched = (refl, same_enrichers);
  })

-- ---- what commands rest on

-- a request that was judged
pub ruleset judges = (judged_worked, judged_audited)

-- a line that decides nothing, with hooks
pub ruleset carries = (carried, carried_silent, carries_hooks, carries_bad)
