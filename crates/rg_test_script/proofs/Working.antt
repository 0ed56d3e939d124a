-- What a line comes to: in the replay, and in the tests.
use Rattle.std.proofs.Common.{◌≡◌, ◌∙◌, ◌++◌, [], ℕ, ◌&&◌, Bool, true, false, List, Option, Some, None, option_map, if◌then◌else◌, append-nil, ap, refl, sym, subst}
use Rattle.std.specs.Option.{option_map_or}
use Rattle.std.specs.Str.{IsUtf8, is_utf8}
use Rattle.std.proofs.lemmas.Option.{same_Some}
use Rattle.std.proofs.lemmas.Str.{IsUtf8-from_is_utf8, is_utf8-from_IsUtf8}
use Rattle.rg_base.specs.declared.numbers.Moment.{Moment}
use Rattle.rg_policy.specs.declared.request.AccessRequest.{AccessRequest}
use Rattle.rg_facts.specs.declared.decision.Decision.{Decision}
use Rattle.rg_facts.specs.declared.facts.Facts.{Facts}
use Rattle.rg_explain.specs.Explaining.{explanation}
use Rattle.rg_explain_wire.specs.Words.{explanation_words}
use Rattle.rg_publish.specs.declared.history.Publication.{Publication}
use Rattle.rg_script.specs.Line.{is_blank}
use Rattle.rg_script.specs.declared.line.Line.{Line}
use Rattle.rg_script.specs.declared.line.Line.TheVariants as line
use Rattle.rg_run_script.specs.Follow.{IsWorked, Work}
use Rattle.rg_run_script.specs.Printed.{deciding, quiet}
use Rattle.rg_run_replay.specs.Replay.{State, admin_work, config_work, decide_work, decision_by_newest, facts_work, line_work, newest_of, prepare_work, published_facts, refresh_work, refreshed_from, replay_step, request_in, service_of}
use Rattle.rg_run_replay.specs.declared.replay.Stage.TheVariants as state
use Rattle.rg_run_replay.proofs.Working.{asks, bad_asks_none}
use Rattle.rg_test_script.specs.Coming.{CameTo}
use Rattle.rg_test_script.specs.Expecting.{is_form, is_met, wanted_by}
use Rattle.rg_test_script.specs.Testing.{Progress, counted, is_sound, judge_work, judged_text, moved, other_work, outcome_by, outcome_of, reason_of, stands_behind, test_step}
use Rattle.rg_test_script.specs.declared.outcome.Outcome.{Outcome}
use Rattle.rg_test_script.specs.declared.outcome.Outcome.TheVariants as outcome

-- ---- a request that is decided

pub decided_so : (s : State) (q : AccessRequest) (d : Decision) → Some d ≡ decision_by_newest s q → CameTo (decide_work s q) s (outcome.Decided q d)
unfolding decide_work
decided_so s q d is = subst (λ o. CameTo (option_map (deciding s (service_of s) q) o) s (outcome.Decided q d)) is (refl, refl)

pub not_decided : (s : State) (q : AccessRequest) → None ≡ decision_by_newest s q → decide_work s q ≡ None
unfolding decide_work
not_decided s q none = ap (option_map (deciding s (service_of s) q)) (sym none)

pub ruleset decisions = (decided_so, not_decided)

-- ---- lines that ask for a decision, and others

-- nothing was decided
abbrev DecidesNone : Option (Work State) → Type 0
DecidesNone None = Unit {0}
DecidesNone (Some w) = w.decided ≡ []

-- neither is anything where each of them decides nothing
none_by : {A : Type 0} (f : A → Work State) → ((x : A) → (f x).decided ≡ []) → (o : Option A) → DecidesNone (option_map f o)
none_by f none None = tt
none_by f none (Some x) = none x

-- nothing is decided before a decision
decides_none : (s : State) (x : Line) → DecidesNone (prepare_work s x)
unfolding facts_work config_work admin_work refresh_work
decides_none s line.Blank = refl
decides_none state.Empty (line.Facts facts) = none_by (λ f. quiet (state.Facts f)) (λ f. refl) _
decides_none (state.Facts f) (line.Facts facts) = tt
decides_none (state.Config r) (line.Facts facts) = tt
decides_none state.Empty (line.Config config) = none_by (λ r. quiet (state.Config r)) (λ r. refl) _
decides_none (state.Facts f) (line.Config config) = tt
decides_none (state.Config r) (line.Config config) = tt
decides_none state.Empty (line.Admin ask) = tt
decides_none (state.Facts f) (line.Admin ask) = tt
decides_none (state.Config r) (line.Admin ask) = refl
decides_none state.Empty line.Refresh = tt
decides_none (state.Facts f) line.Refresh = tt
decides_none (state.Config r) line.Refresh = none_by (refreshed_from r) (λ p. refl) _
decides_none s (line.Decide q) = refl

none_asked : (s : State) (x : Line) → None ≡ request_in x → line_work s (Some x) ≡ prepare_work s x
none_asked s line.Blank is = refl
none_asked s (line.Facts facts) is = refl
none_asked s (line.Config config) is = refl
none_asked s (line.Admin ask) is = refl
none_asked s line.Refresh is = refl
none_asked s (line.Decide q) is = absurd (cc is)

came_so : (o : Option (Work State)) (t : State) (old new : List ℕ) (u : Outcome) → DecidesNone o → old ≡ [] → IsWorked o t old new → u ≡ outcome_by [] new → CameTo o t u
came_so None t old new u none begins is same = absurd is
came_so (Some w) t old new u none begins is same =
    (is.0, same ∙ ap (outcome_by []) (is.1 ∙ ap (λ bs. bs ++ w.text) begins) ∙ ap (λ ds. outcome_by ds w.text) (sym none))

module _ (s : State) (x : Line) (o : Option Line) (read : o ≡ Some x) where
  -- a line that asks for no decision came to what it printed
  pub prepared_came : (t : State) (old new : List ℕ) (u : Outcome) → None ≡ request_in x → old ≡ [] → IsWorked (prepare_work s x) t old new → u ≡ outcome_by [] new
      → CameTo (line_work s o) t u
  prepared_came t old new u none begins is same =
      subst (λ w. CameTo w t u) (sym (ap (line_work s) read ∙ none_asked s x none)) (came_so (prepare_work s x) t old new u (decides_none s x) begins is same)

  pub prepared_bad : prepare_work s x ≡ None → line_work s o ≡ None
  prepared_bad bad = ap (line_work s) read ∙ none_asked s x (bad_asks_none s x bad) ∙ bad

  -- one that asks for a decision leaves the state as it is, and came to what was decided
  module _ (t : State) (old new : List ℕ) (q : AccessRequest) (asked : Some q ≡ request_in x) (is : IsWorked (prepare_work s x) t old new) where
    decides : x ≡ line.Decide q
    decides = asks x q asked

    left : IsWorked (prepare_work s (line.Decide q)) t old new
    left = subst (λ y. IsWorked (prepare_work s y) t old new) decides is

    pub same_state : t ≡ s
    same_state = left.0

    is_decided : line_work s o ≡ decide_work t q
    is_decided = ap (line_work s) (read ∙ ap Some decides) ∙ ap (λ v. decide_work v q) (sym same_state)

    pub decided_came : (v : State) (u : Outcome) → v ≡ t → CameTo (decide_work t q) t u → CameTo (line_work s o) v u
    decided_came v u same came = subst (λ w. CameTo w v u) (sym is_decided) (subst (λ z. CameTo (decide_work t q) z u) (sym same) came)

    pub decided_bad : decide_work t q ≡ None → line_work s o ≡ None
    decided_bad bad = is_decided ∙ bad

-- a line that is prepared, and then decided where it asks for it
pub ruleset replaying = (prepared_came, prepared_bad, same_state, decided_came, decided_bad)

-- ---- why

pub no_facts : (o : Option Publication) (last : Outcome) → None ≡ option_map (λ (p : Publication). p.facts) o → [] ≡ reason_of o last
no_facts None last is = refl
no_facts (Some p) last is = absurd (cc is)

pub over_facts : (o : Option Publication) (q : AccessRequest) (d : Decision) (facts : Facts) → Some facts ≡ option_map (λ (p : Publication). p.facts) o
    → explanation_words false q (explanation facts q (record { 0 = 0 })) ≡ reason_of o (outcome.Decided q d)
over_facts None q d facts is = absurd (cc is)
over_facts (Some p) q d facts is = ap (λ (f : Facts). explanation_words false q (explanation f q (record { 0 = 0 }))) (same_Some facts p.facts is)

pub of_nothing : (o : Option Publication) → [] ≡ reason_of o outcome.Nothing
of_nothing None = refl
of_nothing (Some p) = refl

pub of_printed : (o : Option Publication) (text : List ℕ) → [] ≡ reason_of o (outcome.Printed text)
of_printed None text = refl
of_printed (Some p) text = refl

pub ruleset reasons = (no_facts, over_facts, of_nothing, of_printed)

-- ---- an expectation

abbrev sound_text : Progress → List ℕ → Option (List ℕ)
sound_text s wanted = if is_sound s wanted then Some wanted else None

and_false : (b : Bool) → (b && false) ≡ false
and_false true = refl
and_false false = refl

unsound : (s : Progress) (wanted : List ℕ) → is_sound s wanted ≡ false → None ≡ sound_text s wanted
unsound s wanted is = ap (λ (b : Bool). if b then Some wanted else None) (sym is)

pub of_no_form : (s : Progress) (wanted : List ℕ) → is_form wanted ≡ false → None ≡ sound_text s wanted
of_no_form s wanted fails = unsound s wanted (ap (λ b. is_utf8 wanted && (b && stands_behind s.last)) fails ∙ and_false (is_utf8 wanted))

pub behind_nothing : (s : Progress) (wanted : List ℕ) → stands_behind s.last ≡ false → None ≡ sound_text s wanted
behind_nothing s wanted fails =
    unsound s wanted (ap (λ b. is_utf8 wanted && (is_form wanted && b)) fails ∙ ap (λ b. is_utf8 wanted && b) (and_false (is_form wanted)) ∙ and_false (is_utf8 wanted))

pub of_no_text : (s : Progress) (wanted : List ℕ) → (IsUtf8 wanted → ⊥) → None ≡ sound_text s wanted
of_no_text s wanted fails = go (is_utf8 wanted) refl
  where
    go : (b : Bool) → is_utf8 wanted ≡ b → None ≡ sound_text s wanted
    go true is = absurd (fails (IsUtf8-from_is_utf8 wanted is))
    go false is = unsound s wanted (ap (λ b. b && (is_form wanted && stands_behind s.last)) is)

pub of_form : (s : Progress) (wanted text : List ℕ) → is_form wanted ≡ true → stands_behind s.last ≡ true → text ≡ wanted → IsUtf8 wanted → Some text ≡ sound_text s wanted
of_form s wanted text form behind same utf8 =
    ap Some same
    ∙ ap (λ (b : Bool). if b then Some wanted else None)
    (sym (ap (λ b. b && (is_form wanted && stands_behind s.last)) (is_utf8-from_IsUtf8 wanted utf8) ∙ ap (λ b. b && stands_behind s.last) form ∙ behind))

pub ruleset sounding = (of_no_form, behind_nothing, of_no_text, of_form)

pub sound_if : (b : Bool) (wanted text : List ℕ) → Some text ≡ (if b then Some wanted else None) → (b ≡ true) × (text ≡ wanted)
sound_if true wanted text is = (refl, same_Some text wanted is)
sound_if false wanted text is = absurd (cc is)

unsound_if : (b : Bool) (wanted : List ℕ) → None ≡ (if b then Some wanted else None) → b ≡ false
unsound_if true wanted is = absurd (cc is)
unsound_if false wanted is = refl

judged_so : (s t : Progress) (wanted told old new : List ℕ) (met : Bool) → is_sound s wanted ≡ true → met ≡ is_met wanted s.last → told ≡ judged_text s wanted
    → new ≡ old ++ told → t ≡ counted s met → IsWorked (judge_work s wanted) t old new
unfolding judge_work
judged_so s t wanted told old new met sound is said printed after = rw sound (after ∙ ap (counted s) is, printed ∙ ap (λ text. old ++ text) said)

pub judged_worked : (s t : Progress) (wanted text told old new : List ℕ) (met : Bool) → Some text ≡ (if is_sound s wanted then Some wanted else None)
    → met ≡ is_met text s.last → told ≡ judged_text s text → new ≡ old ++ told → t ≡ counted s met → IsWorked (judge_work s wanted) t old new
judged_worked s t wanted text told old new met found is said printed after =
    let sound = sound_if (is_sound s wanted) wanted text found in
    judged_so s t wanted told old new met sound.0 (is ∙ ap (λ w. is_met w s.last) sound.1) (said ∙ ap (judged_text s) sound.1) printed after

pub judged_bad : (s : Progress) (wanted : List ℕ) → None ≡ (if is_sound s wanted then Some wanted else None) → judge_work s wanted ≡ None
unfolding judge_work
judged_bad s wanted none = rw (unsound_if (is_sound s wanted) wanted none) refl

pub ruleset judging = (judged_worked, judged_bad)

-- ---- any other line

moved_so : (s t : Progress) (o : Option (Work State)) (script : State) (last : Outcome) (text : List ℕ) → CameTo o script last → t ≡ moved s script last
    → IsWorked (option_map (λ (w : Work State). quiet (moved s w.state (outcome_of w))) o) t text text
moved_so s t None script last text came after = absurd came
moved_so s t (Some w) script last text came after =
    (after ∙ ap (λ v. moved s v last) came.0 ∙ ap (moved s w.state) came.1, sym (append-nil text))

pub blank_moved : (s t : Progress) (line text : List ℕ) (now : Moment) → is_blank line ≡ true → t ≡ moved s s.script s.last → IsWorked (other_work s line now) t text text
unfolding other_work
blank_moved s t line text now blank after = rw blank (after, sym (append-nil text))

pub line_moved : (s t : Progress) (line text : List ℕ) (now : Moment) (script : State) (last : Outcome) → is_blank line ≡ false
    → CameTo (replay_step s.script line now) script last → t ≡ moved s script last → IsWorked (other_work s line now) t text text
unfolding other_work
line_moved s t line text now script last blank came after = rw blank (moved_so s t (replay_step s.script line now) script last text came after)

pub line_bad : (s : Progress) (line : List ℕ) (now : Moment) → is_blank line ≡ false → replay_step s.script line now ≡ None → other_work s line now ≡ None
unfolding other_work
line_bad s line now blank bad = rw (blank, bad) refl

pub ruleset moving = (blank_moved, line_moved, line_bad)

-- ---- a line

module _ (s : Progress) (line : List ℕ) (now : Moment) where
  pub expectation_worked : (t : Progress) (wanted old new : List ℕ) → Some wanted ≡ wanted_by line → IsWorked (judge_work s wanted) t old new → IsWorked (test_step s line now) t old new
  expectation_worked t wanted old new some is = subst (λ o. IsWorked (option_map_or (judge_work s) o (other_work s line now)) t old new) some is

  pub expectation_bad : (wanted : List ℕ) → Some wanted ≡ wanted_by line → judge_work s wanted ≡ None → test_step s line now ≡ None
  expectation_bad wanted some bad = ap (λ o. option_map_or (judge_work s) o (other_work s line now)) (sym some) ∙ bad

  pub other_worked : (t : Progress) (text : List ℕ) → None ≡ wanted_by line → ((text : List ℕ) → IsWorked (other_work s line now) t text text) → IsWorked (test_step s line now) t text text
  other_worked t text none is = subst (λ o. IsWorked (option_map_or (judge_work s) o (other_work s line now)) t text text) none (is text)

  pub other_bad : None ≡ wanted_by line → other_work s line now ≡ None → test_step s line now ≡ None
  other_bad none bad = ap (λ o. option_map_or (judge_work s) o (other_work s line now)) (sym none) ∙ bad

pub ruleset stepping = (expectation_worked, expectation_bad, other_worked, other_bad)
