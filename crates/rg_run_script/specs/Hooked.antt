-- A script with hooks: its requests are enriched before they are decided, and its audited decisions are given to sinks. To be read after
-- Follow, and Enriching and Told of rg_hook.
use Rattle.std.specs.Prelude.{◌≡◌, ◌⊎◌, ℕ, List, [], ◌∷◌, ◌++◌, map, Option, Some, None, option_map}
use Rattle.std.specs.List.{AllZip, filter}
use Rattle.std.specs.Str.{chars}
use mathlib.Core.List.{IsPrefix}
use Rattle.rg_base.specs.declared.numbers.Moment.{Moment}
use Rattle.rg_policy.specs.declared.request.AccessRequest.{AccessRequest}
use Rattle.rg_facts.specs.declared.decision.Decision.{Decision}
use Rattle.rg_wire.specs.Printing.{audit_line}
use Rattle.rg_hook.specs.Enriching.{EnricherState, HaveRun, enriched}
use Rattle.rg_hook.specs.Told.{IsGiven, SinkState}
use Rattle.rg_run_script.specs.Follow.{Decided, Step, Work}
use Rattle.rg_run_script.specs.Printed.{decision_line}

-- ---- requests

-- how far a command has come, and the enrichers of its requests
pub record Hooked (S : Type 0) : Type 0 where
  pub state : S
  pub enrichers : List EnricherState

abbrev pub hooked : {S : Type 0} → S → List EnricherState → Hooked S
hooked state es = record { state = state; enrichers = es }

-- a line that decides nothing leaves the enrichers alone
abbrev pub carrying : {S : Type 0} → List EnricherState → Work S → Work (Hooked S)
carrying es w = record { text = w.text; state = hooked w.state es; decided = [] }

-- a request to this service, as it was read, and the decision on what the enrichers make of it
abbrev pub judging : {S : Type 0} → S → List ℕ → List EnricherState → AccessRequest → Decision → Work (Hooked S)
judging s service es q d = record {
  text = decision_line d;
  state = hooked s (enriched es q).enrichers;
  decided = record { service = service; asked = q; request = (enriched es q).request; decision = d } ∷ [];
}

-- the same where the enriched request is decided so, and None where nothing is decided
abbrev pub judged : {S : Type 0} → S → List ℕ → List EnricherState → (AccessRequest → Option Decision) → AccessRequest → Option (Work (Hooked S))
judged s service es decide q = option_map (judging s service es q) (decide (enriched es q).request)

-- the step of a command that is given its enrichers
abbrev pub with_enrichers : {S : Type 0} → (S → List EnricherState → List ℕ → Moment → Option (Work (Hooked S))) → Step (Hooked S)
with_enrichers step h bytes now = step h.state h.enrichers bytes now

-- ---- hooks

-- what the hooks of a worker tell: the sinks, each with its number of failures, and the enrichers
pub record Hooks : Type 0 where
  pub sinks : List (SinkState × ℕ)
  pub enrichers : List EnricherState

abbrev pub hooks_of : List (SinkState × ℕ) → List EnricherState → Hooks
hooks_of sinks enrichers = record { sinks = sinks; enrichers = enrichers }

abbrev pub decided_as : List ℕ → AccessRequest → AccessRequest → Decision → Decided
decided_as service asked request decision = record { service = service; asked = asked; request = request; decision = decision }

-- the audit lines of the audited decisions, in order
abbrev pub audit_lines : List Decided → List (List ℕ)
audit_lines decided = map (λ (d : Decided). chars (audit_line d.service d.request d.decision)) (filter (λ (d : Decided). d.decision.audited) decided)

-- the sinks of a fan, after these lines were given to it one after another
abbrev pub AreGiven : List (List ℕ) → List (SinkState × ℕ) → List (SinkState × ℕ) → Type 0
AreGiven [] old new = new ≡ old
AreGiven (line ∷ lines) old new = (mid : List (SinkState × ℕ)) × AllZip (IsGiven line) old mid × AreGiven lines mid new

-- each request is as the enrichers made it, one after another, and so are the enrichers at the end
abbrev pub AreEnriched : List EnricherState → List Decided → List EnricherState → Type 0
AreEnriched old [] new = new ≡ old
AreEnriched old (d ∷ ds) new = (d.request ≡ (enriched old d.asked).request) × AreEnriched (enriched old d.asked).enrichers ds new

-- the hooks after these decisions: the sinks were given the audit lines, and the enrichers ran for the requests
pub record AreAudited (decided : List Decided) (h k : Hooks) : Type 0 where
  pub lines : AreGiven (audit_lines decided) h.sinks k.sinks
  pub enriched : AreEnriched h.enrichers decided k.enrichers

-- a request to this service was enriched, decided so, and printed; its decision was audited where it is to be
pub record IsJudged (service : List ℕ) (decide : AccessRequest → Option Decision) (q : AccessRequest) (h k : Hooks) (old new : List ℕ) : Type 0 where
  pub request : AccessRequest
  pub decision : Decision
  pub enriched : enriched h.enrichers q ≡ record { enrichers = k.enrichers; request = request }
  pub decided : decide request ≡ Some decision
  pub printed : new ≡ old ++ decision_line decision
  pub given : AreGiven (audit_lines (decided_as service q request decision ∷ [])) h.sinks k.sinks

-- some of the enrichers, or none, have run for one request more
abbrev pub HaveRunOn : List EnricherState → List EnricherState → Type 0
HaveRunOn old new = (new ≡ old) ⊎ ((q : AccessRequest) × HaveRun old q new)

-- the hooks after the first of these decisions, where some enrichers may have run for one request more
pub record AreAuditedInPart (decided : List Decided) (h k : Hooks) : Type 0 where
  pub audited : List Decided
  pub ran : List EnricherState
  pub first : IsPrefix audited decided
  pub after : AreAudited audited h (hooks_of k.sinks ran)
  pub run : HaveRunOn ran k.enrichers

-- the hooks after a line; a bad one leaves no work that could be audited
abbrev pub IsAudited : {S : Type 0} → Option (Work S) → Hooks → Hooks → Type 0
IsAudited None h k = Unit {0}
IsAudited (Some w) h k = AreAudited w.decided h k
