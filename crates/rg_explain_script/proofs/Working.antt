-- What a line comes to once it is prepared.
use Rattle.std.proofs.Common.{◌≡◌, ◌∙◌, ◌++◌, ℕ, List, [], true, false, Option, Some, None, option_map, append-nil, ap, refl, sym, subst}
use Rattle.std.specs.Prelude.{if◌then◌else◌}
use Rattle.std.proofs.lemmas.Option.{same_Some}
use Rattle.rg_policy.specs.declared.request.AccessRequest.{AccessRequest}
use Rattle.rg_facts.specs.declared.decision.Decision.{Decision}
use Rattle.rg_facts.specs.declared.facts.Facts.{Facts}
use Rattle.rg_publish.specs.Passes.{decision_of}
use Rattle.rg_publish.specs.declared.history.Publication.{Publication}
use Rattle.rg_script.specs.declared.line.Line.{Line}
use Rattle.rg_script.specs.declared.line.Line.TheVariants as line
use Rattle.rg_run_script.specs.Follow.{IsWorked, Work}
use Rattle.rg_run_replay.specs.Replay.{State, newest_of, prepare_work, request_in}
use Rattle.rg_run_replay.proofs.Working.{asks, bad_asks_none}
use Rattle.rg_explain_script.specs.declared.options.Style.{Style}
use Rattle.rg_explain_script.specs.declared.options.Wanted.{Wanted}
use Rattle.rg_explain_script.specs.Explained.{Progress, explain_work, explained_text, explaining, is_wanted, line_work, progress, then_wanted, unprinted}

-- ---- a request

module _ (style : Style) (s : State) (wanted after : Wanted) (q : AccessRequest) (moves : after ≡ then_wanted wanted) where
  -- one that is wanted is explained
  pub explained_work : (o : Option Publication) (facts : Facts) (old new : List ℕ) → is_wanted wanted ≡ true → Some facts ≡ option_map (λ (p : Publication). p.facts) o
      → new ≡ old ++ explained_text style facts q → IsWorked (option_map (explaining (progress style s wanted) q) o) (progress style s after) old new
  explained_work None facts old new is_next is printed = absurd (cc is)
  explained_work (Some p) facts old new is_next is printed = (
    ap (progress style s) moves,
    printed ∙ ap (λ (f : Facts). old ++ explained_text style f q) (same_Some facts p.facts is)
        ∙ ap (λ b. old ++ (if b then explained_text style p.facts q else [])) (sym is_next),
  )

  -- any other one is let go
  pub passed_work : (t : State) (o : Option Publication) (d : Decision) (text : List ℕ) → t ≡ s → is_wanted wanted ≡ false → Some d ≡ option_map (λ (p : Publication). decision_of p q) o
      → IsWorked (option_map (explaining (progress style s wanted) q) o) (progress style t after) text text
  passed_work t None d text same isnt_next is = absurd (cc is)
  passed_work t (Some p) d text same isnt_next is = (
    ap (λ (v : State). progress style v after) same ∙ ap (progress style s) moves,
    sym (append-nil text) ∙ ap (λ b. text ++ (if b then explained_text style p.facts q else [])) (sym isnt_next),
  )

-- where nothing is published neither is
pub unexplained : {A : Type 0} (s : Progress) (q : AccessRequest) (o : Option Publication) (told : Publication → A) → None ≡ option_map told o → option_map (explaining s q) o ≡ None
unexplained s q None told is = refl
unexplained s q (Some p) told is = absurd (cc is)

-- ---- lines that ask for a decision, and others

none_unprinted : (s : Progress) (x : Line) → None ≡ request_in x → line_work s (Some x) ≡ option_map (unprinted s) (prepare_work s.script x)
none_unprinted s line.Blank is = refl
none_unprinted s (line.Facts facts) is = refl
none_unprinted s (line.Config config) is = refl
none_unprinted s (line.Admin ask) is = refl
none_unprinted s line.Refresh is = refl
none_unprinted s (line.Decide q) is = absurd (cc is)

printed_none : (s : Progress) (o : Option (Work State)) (t : State) (u v text : List ℕ) → IsWorked o t u v → IsWorked (option_map (unprinted s) o) (progress s.style t s.wanted) text text
printed_none s None t u v text is = absurd is
printed_none s (Some w) t u v text is = (ap (λ (r : State). progress s.style r s.wanted) is.0, sym (append-nil text))

module _ (s : Progress) (x : Line) (o : Option Line) (read : o ≡ Some x) where
  -- a line that asks for no decision is worked once it is prepared, and what it printed is let go
  pub prepared_worked : (t : State) (u v text : List ℕ) → None ≡ request_in x → IsWorked (prepare_work s.script x) t u v → IsWorked (line_work s o) (progress s.style t s.wanted) text text
  prepared_worked t u v text none is =
      subst (λ w. IsWorked w (progress s.style t s.wanted) text text) (sym (ap (line_work s) read ∙ none_unprinted s x none)) (printed_none s (prepare_work s.script x) t u v text is)

  pub prepared_bad : prepare_work s.script x ≡ None → line_work s o ≡ None
  prepared_bad bad = ap (line_work s) read ∙ none_unprinted s x (bad_asks_none s.script x bad) ∙ ap (option_map (unprinted s)) bad

  -- one that asks for a decision leaves the state as it is, and then its request is explained
  module _ (t : State) (u v : List ℕ) (q : AccessRequest) (asked : Some q ≡ request_in x) (is : IsWorked (prepare_work s.script x) t u v) where
    decides : x ≡ line.Decide q
    decides = asks x q asked

    left : IsWorked (prepare_work s.script (line.Decide q)) t u v
    left = subst (λ y. IsWorked (prepare_work s.script y) t u v) decides is

    pub same_state : t ≡ s.script
    same_state = left.0

    is_explained : line_work s o ≡ explain_work (progress s.style t s.wanted) q
    is_explained = ap (line_work s) (read ∙ ap Some decides) ∙ ap (λ (r : State). explain_work (progress s.style r s.wanted) q) (sym same_state)

    pub decided_worked : (r : Progress) (old new : List ℕ) → IsWorked (explain_work (progress s.style t s.wanted) q) r old new → IsWorked (line_work s o) r old new
    decided_worked r old new worked = subst (λ w. IsWorked w r old new) (sym is_explained) worked

    pub decided_bad : explain_work (progress s.style t s.wanted) q ≡ None → line_work s o ≡ None
    decided_bad bad = is_explained ∙ bad

-- a request that is explained or let go, and a line that is prepared
pub ruleset requests = (explained_work, passed_work, unexplained)

pub ruleset preparing = (prepared_worked, prepared_bad, same_state, decided_worked, decided_bad)
