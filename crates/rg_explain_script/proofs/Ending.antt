-- How an explained script ends: as its replay, and with the number of a status.
use Rattle.std.proofs.Common.{◌≡◌, ◌+◌, ◌∙◌, ◌++◌, ◌∷◌, [], inl, ℕ, List, true, false, Option, Some, None, is_some, option_map, append_assoc, refl, ap, sym, subst}
use Rattle.std.specs.Option.{option_map_or}
use Rattle.rg_base.specs.declared.numbers.Moment.{Moment}
use Rattle.rg_policy.specs.declared.request.AccessRequest.{AccessRequest}
use Rattle.rg_publish.specs.Passes.{decision_of}
use Rattle.rg_publish.specs.declared.history.Publication.{Publication}
use Rattle.rg_script.specs.Line.{line_of}
use Rattle.rg_script.specs.declared.line.Line.{Line}
use Rattle.rg_script.specs.declared.line.Line.TheVariants as line
use Rattle.rg_run_script.specs.declared.status.Status.{Status}
use Rattle.rg_run_script.specs.declared.status.Status.TheVariants.{BadLine, Done, NoMemory, Usage}
use Rattle.rg_run_script.specs.Follow.{Decided, Output, Work, bad_line_text, before, ends_bad, worked}
use Rattle.rg_run_script.specs.Ports.{Ports, ports}
use Rattle.rg_run_script.specs.Printed.{deciding}
use Rattle.rg_run_script.specs.Runs.{IsRun, OfStatus, Stands}
use Rattle.rg_run_script.specs.Statuses.{number_of}
use Rattle.rg_run_replay.specs.Replay.{State, decide_work, line_work as replay_work, newest_of, prepare_work, replay_step, service_of}
use Rattle.rg_explain_script.specs.Alike.{EndAlike, EndsNaming}
use Rattle.rg_explain_script.specs.Ends.{Answers, IsEndOf}
use Rattle.rg_explain_script.specs.Explained.{Progress, begins, explain_step, explain_work, explained, explaining, line_work, unprinted}
use Rattle.rg_explain_script.specs.declared.options.Options.{Options}

-- ---- one line

-- both lead to one state, or the line is bad for both
abbrev WorkAlike : Option (Work State) → Option (Work Progress) → Type 0
WorkAlike None None = Unit {0}
WorkAlike (Some w) (Some v) = v.state.script ≡ w.state
WorkAlike None (Some v) = ⊥
WorkAlike (Some w) None = ⊥

unprinted_alike : (s : Progress) (o : Option (Work State)) → WorkAlike o (option_map (unprinted s) o)
unprinted_alike s None = tt
unprinted_alike s (Some w) = refl

explained_alike : (s : Progress) (service : List ℕ) (q : AccessRequest) (o : Option Publication)
    → WorkAlike (option_map (deciding s.script service q) (option_map (λ p. decision_of p q) o)) (option_map (explaining s q) o)
explained_alike s service q None = tt
explained_alike s service q (Some p) = refl

work_alike : (s : Progress) (read : Option Line) → WorkAlike (replay_work s.script read) (line_work s read)
unfolding decide_work explain_work
work_alike s None = tt
work_alike s (Some line.Blank) = unprinted_alike s (prepare_work s.script line.Blank)
work_alike s (Some (line.Facts facts)) = unprinted_alike s (prepare_work s.script (line.Facts facts))
work_alike s (Some (line.Config config)) = unprinted_alike s (prepare_work s.script (line.Config config))
work_alike s (Some (line.Admin ask)) = unprinted_alike s (prepare_work s.script (line.Admin ask))
work_alike s (Some line.Refresh) = unprinted_alike s (prepare_work s.script line.Refresh)
work_alike s (Some (line.Decide q)) = explained_alike s (service_of s.script) q (newest_of s.script)

-- ---- all lines

not_bad : {A : Type 0} → Done ≡ BadLine → A
not_bad is = absurd (let no : ⊥ = cc in no)

bad_alike : (s : Progress) (n : ℕ) (ms : List Moment) → EndAlike (ends_bad s.script n ms) (ends_bad s n ms)
bad_alike s n [] = record { status = refl; state = refl; named = λ bad. (n, ([], refl), ([], refl)) }
bad_alike s n (m ∷ ms) = tt

-- what is printed before it changes nothing
named_behind : (front : List ℕ) (n : ℕ) (text : List ℕ) → EndsNaming n text → EndsNaming n (front ++ text)
named_behind front n text (more, is) = (front ++ more, ap (λ t. front ++ t) is ∙ sym (append_assoc front more (bad_line_text n)))

before_alike : (t u : List ℕ) (ds es : List Decided) (r : Option (Output State)) (e : Option (Output Progress)) → EndAlike r e → EndAlike (option_map (before t ds) r) (option_map (before u es) e)
before_alike t u ds es None None alike = tt
before_alike t u ds es None (Some e) alike = absurd alike
before_alike t u ds es (Some r) None alike = absurd alike
before_alike t u ds es (Some r) (Some e) alike = record {
  status = alike.status;
  state = alike.state;
  named = λ bad. let named = alike.named bad in (named.0, named_behind t named.0 r.text named.1, named_behind u named.0 e.text named.2);
}

module _ (s : Progress) (n : ℕ) (lines : List (List ℕ)) (ms : List Moment)
    (rest : (t : Progress) → EndAlike (worked replay_step t.script (n + 1) lines ms) (worked explain_step t (n + 1) lines ms)) where
  one_line : (w : Option (Work State)) (v : Option (Work Progress)) → WorkAlike w v
      → EndAlike (option_map_or (λ (x : Work State). option_map (before x.text x.decided) (worked replay_step x.state (n + 1) lines ms)) w (ends_bad s.script n ms))
      (option_map_or (λ (x : Work Progress). option_map (before x.text x.decided) (worked explain_step x.state (n + 1) lines ms)) v (ends_bad s n ms))
  one_line None None alike = bad_alike s n ms
  one_line None (Some v) alike = absurd alike
  one_line (Some w) None alike = absurd alike
  one_line (Some w) (Some v) alike =
      subst (λ (t : State). EndAlike (option_map (before w.text w.decided) (worked replay_step t (n + 1) lines ms)) (option_map (before v.text v.decided) (worked explain_step v.state (n + 1) lines ms)))
      alike
      (before_alike w.text v.text w.decided v.decided (worked replay_step v.state.script (n + 1) lines ms) (worked explain_step v.state (n + 1) lines ms) (rest v.state))

pub end_alike : (s : Progress) (n : ℕ) (lines : List (List ℕ)) (ms : List Moment) → EndAlike (worked replay_step s.script n lines ms) (worked explain_step s n lines ms)
end_alike s n [] [] = record { status = refl; state = refl; named = not_bad }
end_alike s n [] (m ∷ ms) = tt
end_alike s n (line ∷ lines) [] = tt
end_alike s n (line ∷ lines) (m ∷ ms) =
    one_line s n lines ms (λ t. end_alike t (n + 1) lines ms) (replay_step s.script line m) (explain_step s line m) (work_alike s (line_of line m))

-- ---- statuses

-- a run from the state in which these options begin
pub by_options : (options : Options) (s : Progress) (p q : Ports) (status : Status) → s ≡ begins options → IsRun (Stands Progress (worked explain_step s 1)) p q status
    → IsRun (Stands Progress (explained options)) p q status
by_options options s p q status first run = subst (λ (t : Progress). IsRun (Stands Progress (worked explain_step t 1)) p q status) first run

pub answered_so : (options : Options) (asked : Option Options) (p q : Ports) (status : Status) (n : ℕ) → Some options ≡ asked → n ≡ number_of status
    → IsRun (Stands Progress (explained options)) p q status → OfStatus n (IsRun (Answers asked) p q)
answered_so options asked p q status n is number run = (status, number, subst (λ a. IsRun (Answers a) p q status) is run)

pub asks_nothing : {A : Type 0} (options : Options) (asked : Option Options) → Some options ≡ asked → asked ≡ None → A
asks_nothing options asked is none = absurd (let no : ⊥ = cc (is ∙ none) in no)

pub asks_something : {A : Type 0} (asked : Option Options) → is_some asked ≡ true → asked ≡ None → A
asks_something asked some none = absurd (let no : ⊥ = cc (sym (ap is_some none) ∙ some) in no)

pub refused_so : (asked : Option Options) (p : Ports) (n : ℕ) → None ≡ asked → n ≡ 1 → OfStatus n (IsRun (Answers asked) p p)
refused_so asked p n none number = (Usage, number, subst (λ a. IsRun (Answers a) p p Usage) none (record { stands = refl; reads = refl; writes = refl }))

-- memory was refused before the script was read
pub undone : (asked : Option Options) (p : Ports) (n : ℕ) → is_some asked ≡ true → n ≡ 9 → OfStatus n (IsRun (Answers asked) p p)
undone None p n some number = absurd (let no : ⊥ = cc some in no)
undone (Some options) p n some number = (NoMemory, number, record { stands = (refl, inl refl); reads = refl; writes = refl })

idle : Ports
idle = ports None false 0 None None 0

pub ended_so : (asked : Option Options) (n m : ℕ) → m ≡ n → IsEndOf asked n → IsEndOf asked m
ended_so asked n m same is = subst (IsEndOf asked) (sym same) is

pub never_begun : (options : Options) (n : ℕ) → n ≡ 9 → IsEndOf (Some options) n
never_begun options n is = (idle, idle, undone (Some options) idle n refl is)

pub never_asked : (n : ℕ) → n ≡ 1 → IsEndOf None n
never_asked n is = (idle, idle, refused_so None idle n refl is)
