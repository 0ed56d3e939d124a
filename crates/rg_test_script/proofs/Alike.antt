-- Tests end as the replay of their lines does.
use Rattle.std.proofs.Common.{◌≡◌, ◌+◌, ◌∙◌, ◌==◌, ◌∷◌, [], ℕ, Bool, true, false, List, Option, Some, None, option_map, if◌then◌else◌, refl, ap, sym, subst}
use Rattle.std.specs.Option.{option_map_or}
use Rattle.std.proofs.lemmas.Bool.Decides.{Decides-eqb}
use Rattle.std.proofs.lemmas.Option.{same_Some}
use Rattle.rg_base.specs.declared.numbers.Moment.{Moment}
use Rattle.rg_script.specs.Line.{is_blank, line_read}
use Rattle.rg_run_script.specs.declared.status.Status.{Status}
use Rattle.rg_run_script.specs.declared.status.Status.TheVariants.{BadLine, Done}
use Rattle.rg_run_script.specs.Follow.{Decided, Output, Work, before, ends_bad, worked}
use Rattle.rg_run_script.specs.Printed.{quiet}
use Rattle.rg_run_replay.specs.Replay.{State, replay_step, replayed}
use Rattle.rg_test_script.specs.Alike.{AreAlike, EndsAlike}
use Rattle.rg_test_script.specs.Expecting.{behind, expecting, wanted_by}
use Rattle.rg_test_script.specs.Testing.{Progress, begins, ended, ended_by, judge_work, judged, is_sound, moved, other_work, outcome_of, test_step, tested}
use Rattle.rg_test_script.specs.declared.form.Form.{Form}

-- ---- a line

-- a line that the tests work is worked by the replay too, and leads to the same state
abbrev WorksAlike : Option (Work Progress) → Option (Work State) → Type 0
WorksAlike None r = Unit {0}
WorksAlike (Some w) None = ⊥
WorksAlike (Some w) (Some v) = w.state.script ≡ v.state

-- an expectation is a comment
first_byte : (same : Bool) (b : ℕ) (o : Option (List ℕ)) (wanted : List ℕ) → (same ≡ true → 35 ≡ b) → (if same then o else None) ≡ Some wanted → (b == 35) ≡ true
first_byte true b o wanted so is = (Decides-eqb b 35).1 (sym (so refl))
first_byte false b o wanted so is = absurd (let no : ⊥ = cc in no)

is_comment : (line wanted : List ℕ) → wanted_by line ≡ Some wanted → is_blank line ≡ true
unfolding expecting
is_comment [] wanted is = refl
is_comment (b ∷ bs) wanted is = first_byte (35 == b) b _ wanted (λ e. (Decides-eqb 35 b).0 e) is

blank_quiet : (s : State) (line : List ℕ) (m : Moment) → is_blank line ≡ true → replay_step s line m ≡ Some (quiet s)
unfolding line_read
blank_quiet s line m blank = rw blank refl

module _ (s : Progress) where
  judged_if : (wanted : List ℕ) (b : Bool) → WorksAlike (if b then Some (judged s wanted) else None) (Some (quiet s.script))
  judged_if wanted true = refl
  judged_if wanted false = tt

  judged_alike : (wanted : List ℕ) → WorksAlike (judge_work s wanted) (Some (quiet s.script))
  unfolding judge_work
  judged_alike wanted = judged_if wanted (is_sound s wanted)

  moved_alike : (r : Option (Work State)) → WorksAlike (option_map (λ (w : Work State). quiet (moved s w.state (outcome_of w))) r) r
  moved_alike None = tt
  moved_alike (Some w) = refl

  module _ (line : List ℕ) (m : Moment) where
    other_if : (b : Bool) → is_blank line ≡ b
        → WorksAlike (if b then Some (quiet (moved s s.script s.last)) else option_map (λ (w : Work State). quiet (moved s w.state (outcome_of w))) (replay_step s.script line m))
        (replay_step s.script line m)
    other_if true blank = subst (λ r. WorksAlike (Some (quiet (moved s s.script s.last))) r) (sym (blank_quiet s.script line m blank)) refl
    other_if false blank = moved_alike (replay_step s.script line m)

    other_alike : WorksAlike (other_work s line m) (replay_step s.script line m)
    unfolding other_work
    other_alike = other_if (is_blank line) refl

    step_by : (o : Option (List ℕ)) → wanted_by line ≡ o → WorksAlike (option_map_or (judge_work s) o (other_work s line m)) (replay_step s.script line m)
    step_by None is = other_alike
    step_by (Some wanted) is =
        subst (λ r. WorksAlike (judge_work s wanted) r) (sym (blank_quiet s.script line m (is_comment line wanted is))) (judged_alike wanted)

    step_alike : WorksAlike (test_step s line m) (replay_step s.script line m)
    step_alike = step_by (wanted_by line) refl

-- ---- all lines

-- where the tests have no bad line, both end alike
abbrev Alike : Option (Output Progress) → Option (Output State) → Type 0
Alike None r = Unit {0}
Alike (Some o) r = o.status ≡ Done → EndsAlike r o

not_done : {A : Type 0} → BadLine ≡ Done → A
not_done is = absurd (let no : ⊥ = cc in no)

bad_alike : (s : Progress) (n : ℕ) (ms : List Moment) (r : Option (Output State)) → Alike (ends_bad s n ms) r
bad_alike s n [] r = not_done
bad_alike s n (m ∷ ms) r = tt

before_alike : (t u : List ℕ) (ds es : List Decided) (o : Option (Output Progress)) (r : Option (Output State)) → Alike o r → Alike (option_map (before t ds) o) (option_map (before u es) r)
before_alike t u ds es None r alike = tt
before_alike t u ds es (Some o) None alike = λ done. absurd (alike done)
before_alike t u ds es (Some o) (Some r) alike = λ done. record { status = (alike done).status; state = (alike done).state }

module _ (s : Progress) (n : ℕ) (lines : List (List ℕ)) (ms : List Moment) (rest : (t : Progress) → Alike (worked test_step t (n + 1) lines ms) (worked replay_step t.script (n + 1) lines ms)) where
  one_line : (w : Option (Work Progress)) (v : Option (Work State)) → WorksAlike w v
      → Alike (option_map_or (λ (x : Work Progress). option_map (before x.text x.decided) (worked test_step x.state (n + 1) lines ms)) w (ends_bad s n ms))
      (option_map_or (λ (x : Work State). option_map (before x.text x.decided) (worked replay_step x.state (n + 1) lines ms)) v (ends_bad s.script n ms))
  one_line None v alike = bad_alike s n ms _
  one_line (Some w) None alike = absurd alike
  one_line (Some w) (Some v) alike =
      before_alike w.text v.text w.decided v.decided (worked test_step w.state (n + 1) lines ms) (worked replay_step v.state (n + 1) lines ms)
      (subst (λ (t : State). Alike (worked test_step w.state (n + 1) lines ms) (worked replay_step t (n + 1) lines ms)) alike (rest w.state))

lines_alike : (s : Progress) (n : ℕ) (lines : List (List ℕ)) (ms : List Moment) → Alike (worked test_step s n lines ms) (worked replay_step s.script n lines ms)
lines_alike s n [] [] = λ done. record { status = refl; state = refl }
lines_alike s n [] (m ∷ ms) = tt
lines_alike s n (line ∷ lines) [] = tt
lines_alike s n (line ∷ lines) (m ∷ ms) =
    one_line s n lines ms (λ t. lines_alike t (n + 1) lines ms) (test_step s line m) (replay_step s.script line m) (step_alike s line m)

-- ---- the whole

done_before : (s : Progress) (status : Status) → ended_by s status ≡ Done → status ≡ Done
done_before s Done is = refl
done_before s status is = is

whole_alike : (o : Output Progress) (r : Option (Output State)) → EndsAlike r o → EndsAlike r (ended o)
whole_alike o None alike = alike
whole_alike o (Some r) alike = record { status = alike.status; state = alike.state }

ended_alike : (w : Option (Output Progress)) (r : Option (Output State)) (tests : Output Progress) → Alike w r → option_map ended w ≡ Some tests → tests.status ≡ Done → EndsAlike r tests
ended_alike None r tests alike is done = absurd (let no : ⊥ = cc in no)
ended_alike (Some w) r tests alike is done =
    let same : ended w ≡ tests = same_Some (ended w) tests is in
    subst (EndsAlike r) same (whole_alike w r (alike (done_before w.state w.status (ap (λ (o : Output Progress). o.status) same ∙ done))))

pub tested_alike : (form : Form) (lines : List (List ℕ)) (moments : List Moment) (tests : Output Progress) → tested form lines moments ≡ Some tests → tests.status ≡ Done
    → EndsAlike (replayed lines moments) tests
unfolding tested
tested_alike form lines moments tests is done =
    ended_alike (worked test_step (begins form) 1 lines moments) (replayed lines moments) tests (lines_alike (begins form) 1 lines moments) is done
