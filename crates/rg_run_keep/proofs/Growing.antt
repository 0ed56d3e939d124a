-- What lines do to the records: they add to them.
use Rattle.std.proofs.Common.{◌≡◌, ◌∙◌, ◌++◌, ℕ, Bool, true, false, if◌then◌else◌, List, [], ◌∷◌, length, Option, Some, None, option_map, append-nil, append_assoc, refl, ap, sym, subst}
use Rattle.std.proofs.lemmas.Option.{same_Some}
use mathlib.Core.List.{IsPrefix}
use Rattle.rg_base.specs.declared.numbers.Moment.{Moment}
use Rattle.rg_policy.specs.declared.request.AccessRequest.{AccessRequest}
use Rattle.rg_facts.specs.declared.decision.Decision.{Decision}
use Rattle.rg_hook.specs.Enriching.{EnricherState, enriched}
use Rattle.rg_cmd.specs.declared.ask.Ask.{Ask}
use Rattle.rg_cmd.specs.declared.config.Config.{Config}
use Rattle.rg_cmd.specs.declared.rule.Rule.{Rule}
use Rattle.rg_keep.specs.Starting.{start_fault}
use Rattle.rg_run_script.specs.Current.{decision_now}
use Rattle.rg_ask_wire.specs.Asks.{ask_text}
use Rattle.rg_keep.specs.Keeping.{added_if, is_past}
use Rattle.rg_keep.specs.Replay.{first_bad, is_kept, replayed}
use Rattle.rg_run_keep.specs.Lines.{keep_line_of}
use Rattle.rg_run_keep.specs.declared.line.KeepLine.{KeepLine}
use Rattle.rg_run_keep.specs.declared.line.KeepLine.TheVariants as line
use Rattle.rg_run_script.specs.Follow.{Work}
use Rattle.rg_run_script.specs.Hooked.{Hooked, carrying, judging}
use Rattle.rg_run_script.specs.Printed.{quiet}
use Rattle.rg_run_keep.specs.Keeps.{Opened, State, ask_work, at, config_work, full_line, judge_work, keep_step, kept_line, line_work, opened_by, opened_unless, prints, reopen_work, replied}
use Rattle.rg_run_keep.specs.Stages.{spoiled}

-- ---- more records behind others

abbrev pub Grows : List (List ℕ) → List (List ℕ) → Type 0
Grows before after = (more : List (List ℕ)) × (after ≡ before ++ more)

pub grows_none : (records : List (List ℕ)) → Grows records records
grows_none records = ([], sym (append-nil records))

pub grows_on : (first mid last : List (List ℕ)) → Grows first mid → Grows mid last → Grows first last
grows_on first mid last (a, e) (b, f) = (a ++ b, f ∙ (ap (λ l. l ++ b) e ∙ append_assoc first a b))

pub grows_to : (first mid last : List (List ℕ)) → Grows first mid → mid ≡ last → Grows first last
grows_to first mid last g same = subst (Grows first) same g

-- those that were found come first
pub found_first : (found now : List (List ℕ)) → Grows found now → IsPrefix found now
found_first found now (more, e) = (more, sym e)

-- ---- a line

-- the line adds to the records; where it leaves nothing opened, nothing was, and it printed and added nothing
record PlainAdds (o : Option Opened) (records : List (List ℕ)) (w : Work State) : Type 0 where
  pub grows : Grows records w.state.records
  pub unopened : w.state.opened ≡ None → (o ≡ None) × (w.text ≡ []) × (w.state.records ≡ records)

-- the same with hooks, and it decided nothing then
pub record OnlyAdds (o : Option Opened) (records : List (List ℕ)) (w : Work (Hooked State)) : Type 0 where
  pub grows : Grows records w.state.state.records
  pub unopened : w.state.state.opened ≡ None → (o ≡ None) × (w.text ≡ []) × (w.state.state.records ≡ records) × (w.decided ≡ [])

carried_adds : (o : Option Opened) (records : List (List ℕ)) (es : List EnricherState) (work : Option (Work State)) (w : Work (Hooked State)) → ((v : Work State) → work ≡ Some v → PlainAdds o records v)
    → option_map (carrying es) work ≡ Some w → OnlyAdds o records w
carried_adds o records es None w adds e = absurd (cc e)
carried_adds o records es (Some v) w adds e =
    let is = adds v refl in
    subst (OnlyAdds o records) (same_Some (carrying es v) w e)
    (record { grows = is.grows; unopened = λ none. (let u = is.unopened none in (u.0, u.1, u.2, refl)) })

adds_so : (o : Option Opened) (records : List (List ℕ)) (v w : Work State) → Some v ≡ Some w → PlainAdds o records v → PlainAdds o records w
adds_so o records v w e is = subst (PlainAdds o records) (same_Some v w e) is

opened_adds : (o : Opened) (records now : List (List ℕ)) (p : Option Opened) (text : List ℕ) (w : Work State) → Grows records now → Some (prints text (at (Some o) now)) ≡ Some w → PlainAdds p records w
opened_adds o records now p text w grows e =
    adds_so p records (prints text (at (Some o) now)) w e (record { grows = grows; unopened = λ (none : Some o ≡ None). absurd (cc none) })

blank_adds : (o : Option Opened) (records : List (List ℕ)) (w : Work State) → Some (quiet (at o records)) ≡ Some w → PlainAdds o records w
blank_adds o records w e = adds_so o records (quiet (at o records)) w e (record { grows = grows_none records; unopened = λ none. (none, refl, refl) })

by_adds : (config : Config) (records : List (List ℕ)) (bad : Option ℕ) (w : Work State) → Some (quiet (opened_by config records bad)) ≡ Some w → PlainAdds None records w
by_adds config records None w e = opened_adds (record { config = config; admin = replayed config records }) records records None [] w (grows_none records) e
by_adds config records (Some place) w e = adds_so None records (quiet (spoiled records place)) w e (record { grows = grows_none records; unopened = λ _. (refl, refl, refl) })

unless_adds : (fault : Option Rule) (config : Config) (records : List (List ℕ)) (w : Work State) → opened_unless fault config records ≡ Some w → PlainAdds None records w
unless_adds None config records w e = by_adds config records (first_bad config records) w e
unless_adds (Some rule) config records w e = absurd (cc e)

config_adds : (o : Option Opened) (records : List (List ℕ)) (config : Config) (w : Work State) → config_work o records config ≡ Some w → PlainAdds o records w
unfolding config_work
config_adds None records config w e = unless_adds (start_fault config) config records w e
config_adds (Some o) records config w e = absurd (cc e)

added_grows : (is_added : Bool) (entry : List ℕ) (records : List (List ℕ)) → Grows records (added_if is_added entry records)
added_grows true entry records = (entry ∷ [], refl)
added_grows false entry records = grows_none records

asked_adds : (past : Bool) (o : Opened) (records : List (List ℕ)) (ask : Ask) (w : Work State)
    → Some (if past then prints full_line (at (Some o) records) else replied o records ask) ≡ Some w → PlainAdds (Some o) records w
asked_adds true o records ask w e = opened_adds o records records (Some o) full_line w (grows_none records) e
asked_adds false o records ask w e =
    adds_so (Some o) records (replied o records ask) w e
    (record { grows = added_grows (is_kept o.admin ask) (ask_text ask) records; unopened = λ none. absurd (cc none) })

ask_adds : (o : Option Opened) (records : List (List ℕ)) (ask : Ask) (w : Work State) → ask_work o records ask ≡ Some w → PlainAdds o records w
unfolding ask_work
ask_adds None records ask w e = absurd (cc e)
ask_adds (Some o) records ask w e = asked_adds (is_past (length records) ask) o records ask w e

reopen_adds : (o : Option Opened) (records : List (List ℕ)) (w : Work State) → reopen_work o records ≡ Some w → PlainAdds o records w
unfolding reopen_work
reopen_adds None records w e = absurd (cc e)
reopen_adds (Some o) records w e =
    opened_adds (record { config = o.config; admin = replayed o.config records }) records records (Some o) (kept_line (length records)) w (grows_none records) e

decided_adds : (decision : Option Decision) (o : Opened) (records : List (List ℕ)) (es : List EnricherState) (q : AccessRequest) (w : Work (Hooked State))
    → option_map (judging (at (Some o) records) o.admin.state.plugin es q) decision ≡ Some w → OnlyAdds (Some o) records w
decided_adds None o records es q w e = absurd (cc e)
decided_adds (Some d) o records es q w e =
    subst (OnlyAdds (Some o) records) (same_Some (judging (at (Some o) records) o.admin.state.plugin es q d) w e)
    (record { grows = grows_none records; unopened = λ (none : Some o ≡ None). absurd (cc none) })

judge_adds : (o : Option Opened) (records : List (List ℕ)) (es : List EnricherState) (q : AccessRequest) (w : Work (Hooked State)) → judge_work o records es q ≡ Some w → OnlyAdds o records w
unfolding judge_work
judge_adds None records es q w e = absurd (cc e)
judge_adds (Some o) records es q w e = decided_adds (decision_now o.admin (enriched es q).request) o records es q w e

line_adds : (o : Option Opened) (records : List (List ℕ)) (es : List EnricherState) (read : Option KeepLine) (w : Work (Hooked State)) → line_work o records es read ≡ Some w → OnlyAdds o records w
line_adds o records es None w e = absurd (cc e)
line_adds o records es (Some line.Blank) w e = carried_adds o records es (Some (quiet (at o records))) w (blank_adds o records) e
line_adds o records es (Some (line.Config config)) w e = carried_adds o records es (config_work o records config) w (config_adds o records config) e
line_adds o records es (Some (line.Ask ask)) w e = carried_adds o records es (ask_work o records ask) w (ask_adds o records ask) e
line_adds o records es (Some line.Reopen) w e = carried_adds o records es (reopen_work o records) w (reopen_adds o records) e
line_adds o records es (Some (line.Decide q)) w e = judge_adds o records es q w e

pub step_adds : (o : Option Opened) (records : List (List ℕ)) (es : List EnricherState) (line : List ℕ) (m : Moment) (w : Work (Hooked State)) → keep_step (at o records) es line m ≡ Some w
    → OnlyAdds o records w
step_adds o records es line m w e = line_adds o records es (keep_line_of line m) w e
