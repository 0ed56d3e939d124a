-- What the lines of an administration come to.
use Rattle.std.proofs.Common.{◌≡◌, ◌∙◌, ◌++◌, ℕ, Bool, true, false, not, if◌then◌else◌, List, Option, None, Some, option_map, append-nil, ap, refl, sym, subst}
use Rattle.std.proofs.lemmas.Option.{same_Some}
use Rattle.rg_base.specs.declared.numbers.Serial.{Serial}
use Rattle.rg_policy.specs.declared.request.AccessRequest.{AccessRequest}
use Rattle.rg_facts.specs.declared.decision.Decision.{Decision}
use Rattle.rg_facts.specs.declared.facts.Facts.{Facts}
use Rattle.rg_facts.specs.Sound.{sound}
use Rattle.rg_cmd.specs.declared.ask.AdminReply.{AdminReply}
use Rattle.rg_cmd.specs.declared.ask.Ask.{Ask}
use Rattle.rg_admin_laws.specs.Steps.{step}
use Rattle.rg_publish.specs.Passes.{Ends, decision_of}
use Rattle.rg_run_replay.specs.Running.{IsRefreshed, Running, asked, newest}
use Rattle.rg_run_replay.specs.declared.replay.Stage.TheVariants as state
use Rattle.rg_run_script.specs.Follow.{IsWorked}
use Rattle.rg_run_replay.specs.Replay.{State, admin_work, judge_work, line_work_with, prepare_work, published_facts, refresh_line, refresh_work, refreshed_from, request_in}
use Rattle.rg_hook.specs.Enriching.{EnricherState}
use Rattle.rg_script.specs.declared.line.Line.{Line}
use Rattle.rg_script.specs.declared.line.Line.TheVariants as line
use Rattle.rg_run_script.specs.Hooked.{Hooks, IsAudited, carrying, hooked}
use Rattle.rg_run_script.specs.Printed.{reply_line}
use Rattle.rg_run_script.proofs.Hooks.{carried, carries_hooks}

pub asked_work : (r later : Running) (ask : Ask) (reply : AdminReply) (text text' : List ℕ) → later ≡ asked r ask → reply ≡ (step r.admin ask).1 → text' ≡ text ++ reply_line reply
    → IsWorked (admin_work (state.Config r) ask) (state.Config later) text text'
unfolding admin_work
asked_work r later ask reply text text' now answers printed = (ap state.Config now, printed ∙ ap (λ a. text ++ reply_line a) answers)

pub refreshed_work : (r later : Running) (serial : Option Serial) (text text' : List ℕ) → Ends r.published (λ p. IsRefreshed r p serial later)
    → text' ≡ text ++ refresh_line serial → IsWorked (refresh_work (state.Config r)) (state.Config later) text text'
unfolding refresh_work
refreshed_work r later serial text text' (p, last, is) printed =
    subst (λ o. IsWorked (option_map (refreshed_from r) o) (state.Config later) text text') (sym last)
    (ap state.Config is.after, printed ∙ ap (λ s. text ++ refresh_line s) is.serial)

-- a decision by the newest publication
pub decided_last : (r : Running) (q : AccessRequest) (d : Decision) → Ends r.published (λ p. d ≡ decision_of p q) → Some d ≡ option_map (λ p. decision_of p q) (newest r)
decided_last r q d (p, last, is) = subst (λ o. Some d ≡ option_map (λ p. decision_of p q) o) (sym last) (ap Some is)

-- ---- facts that are published

-- a test of a fault, and what it is the fault of
pub without_fault : (holds fault : Bool) → fault ≡ not holds → fault ≡ false → holds ≡ true
without_fault true fault is none = refl
without_fault false fault is none = absurd (cc (sym is ∙ none))

pub with_fault : (holds fault : Bool) → fault ≡ not holds → fault ≡ true → holds ≡ false
with_fault true fault is some = absurd (cc (sym is ∙ some))
with_fault false fault is some = refl

pub published : (facts : Facts) → sound facts ≡ true → Some facts ≡ published_facts facts
unfolding published_facts
published facts is = ap (λ b. if b then Some facts else None) (sym is)

pub unpublished : (facts : Facts) → sound facts ≡ false → None ≡ published_facts facts
unfolding published_facts
unpublished facts is = ap (λ b. if b then Some facts else None) (sym is)

-- ---- lines that ask for a decision, and others

pub asks : (x : Line) (q : AccessRequest) → Some q ≡ request_in x → x ≡ line.Decide q
asks line.Blank q is = absurd (cc is)
asks (line.Facts facts) q is = absurd (cc is)
asks (line.Config config) q is = absurd (cc is)
asks (line.Admin ask) q is = absurd (cc is)
asks line.Refresh q is = absurd (cc is)
asks (line.Decide p) q is = ap line.Decide (same_Some p q (sym is))

-- a line that is bad when it is prepared asks for none
pub bad_asks_none : (s : State) (x : Line) → prepare_work s x ≡ None → None ≡ request_in x
bad_asks_none s line.Blank bad = refl
bad_asks_none s (line.Facts facts) bad = refl
bad_asks_none s (line.Config config) bad = refl
bad_asks_none s (line.Admin ask) bad = refl
bad_asks_none s line.Refresh bad = refl
bad_asks_none s (line.Decide q) bad = absurd (cc bad)

none_with : (s : State) (x : Line) (es : List EnricherState) → None ≡ request_in x → line_work_with s es (Some x) ≡ option_map (carrying es) (prepare_work s x)
none_with s line.Blank es is = refl
none_with s (line.Facts facts) es is = refl
none_with s (line.Config config) es is = refl
none_with s (line.Admin ask) es is = refl
none_with s line.Refresh es is = refl
none_with s (line.Decide q) es is = absurd (cc is)

module _ (s : State) (x : Line) (o : Option Line) (es : List EnricherState) (read : o ≡ Some x) where
  -- a line that asks for no decision is worked once it is prepared
  pub prepared_worked : (t : State) (old new : List ℕ) → None ≡ request_in x → IsWorked (prepare_work s x) t old new → IsWorked (line_work_with s es o) (hooked t es) old new
  prepared_worked t old new none is =
      subst (λ w. IsWorked w (hooked t es) old new) (sym (ap (line_work_with s es) read ∙ none_with s x es none)) (carried (prepare_work s x) t es old new is)

  pub prepared_audited : (h : Hooks) → None ≡ request_in x → IsAudited (line_work_with s es o) h h
  prepared_audited h none = subst (λ w. IsAudited w h h) (sym (ap (line_work_with s es) read ∙ none_with s x es none)) (carries_hooks (prepare_work s x) es h)

  pub prepared_bad : prepare_work s x ≡ None → line_work_with s es o ≡ None
  prepared_bad bad = ap (line_work_with s es) read ∙ none_with s x es (bad_asks_none s x bad) ∙ ap (option_map (carrying es)) bad

  -- one that asks for a decision is left as it is, and then its request is judged
  module _ (t : State) (old new : List ℕ) (q : AccessRequest) (asked : Some q ≡ request_in x) (is : IsWorked (prepare_work s x) t old new) where
    decides : x ≡ line.Decide q
    decides = asks x q asked

    left : IsWorked (prepare_work s (line.Decide q)) t old new
    left = subst (λ y. IsWorked (prepare_work s y) t old new) decides is

    pub same_state : t ≡ s
    same_state = left.0

    pub same_text : new ≡ old
    same_text = left.1 ∙ append-nil old

    is_judged : line_work_with s es o ≡ judge_work t es q
    is_judged = ap (line_work_with s es) (read ∙ ap Some decides) ∙ ap (λ v. judge_work v es q) (sym same_state)

    pub decided_worked : (u : State) (fs : List EnricherState) (last : List ℕ) → u ≡ t → IsWorked (judge_work t es q) (hooked t fs) new last
        → IsWorked (line_work_with s es o) (hooked u fs) old last
    decided_worked u fs last same worked =
        subst (λ w. IsWorked w (hooked u fs) old last) (sym is_judged)
        (subst (λ b. IsWorked (judge_work t es q) (hooked u fs) b last) same_text
        (subst (λ v. IsWorked (judge_work t es q) (hooked v fs) new last) (sym same) worked))

    pub decided_audited : (h k : Hooks) → IsAudited (judge_work t es q) h k → IsAudited (line_work_with s es o) h k
    decided_audited h k audited = subst (λ w. IsAudited w h k) (sym is_judged) audited

    pub decided_bad : judge_work t es q ≡ None → line_work_with s es o ≡ None
    decided_bad bad = is_judged ∙ bad

-- a line that is prepared, and then judged where it asks for a decision
pub ruleset preparing = (prepared_worked, prepared_audited, prepared_bad, same_state, same_text, decided_worked, decided_audited, decided_bad)
