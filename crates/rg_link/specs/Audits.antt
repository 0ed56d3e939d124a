-- What decisions do to sinks and enrichers.
use Rattle.std.specs.Prelude.{◌≡◌, ◌-◌, ℕ, List, [], ◌∷◌, Some, map, slice_get}
use Rattle.std.specs.List.{AllZip, filter}
use Rattle.std.specs.Str.{chars}
use Rattle.rg_policy.specs.declared.request.AccessRequest.{AccessRequest}
use Rattle.rg_facts.specs.declared.decision.Decision.{Decision}
use Rattle.rg_publish.specs.declared.history.Publication.{Publication}
use Rattle.rg_publish.specs.Passes.{decision_of}
use Rattle.rg_wire.specs.Printing.{audit_line}
use Rattle.rg_hook.specs.Enriching.{EnricherState, enriched}
use Rattle.rg_hook.specs.Told.{IsGiven, SinkState}

-- a decision: the request as the message has it, the request as the enrichers made it, the serial of the publication that decided,
-- and what was decided
pub record Decided : Type 0 where
  pub asked : AccessRequest
  pub request : AccessRequest
  pub serial : ℕ
  pub decision : Decision

-- the publication of this serial
abbrev pub IsPublished : List Publication → ℕ → Publication → Type 0
IsPublished pubs serial p = slice_get pubs (serial - 1) ≡ Some p

-- it is the written flow over the publication of its serial, which is the number that the decision tells
abbrev pub IsDecided : List Publication → Decided → Type 0
IsDecided pubs d = (p : Publication) × IsPublished pubs d.serial p × (d.decision ≡ decision_of p d.request) × (d.decision.serial.0 ≡ d.serial)

-- each request is as the enrichers made it, one after another, and so are the enrichers at the end
abbrev pub AreEnriched : List EnricherState → List Decided → List EnricherState → Type 0
AreEnriched old [] new = new ≡ old
AreEnriched old (d ∷ ds) new = (d.request ≡ (enriched old d.asked).request) × AreEnriched (enriched old d.asked).enrichers ds new

-- the audit lines of the audited decisions, in order
abbrev pub audit_lines : List ℕ → List Decided → List (List ℕ)
audit_lines plugin decided =
    map (λ (d : Decided). chars (audit_line plugin d.request d.decision)) (filter (λ (d : Decided). d.decision.audited) decided)

-- a sink with its number of failures, after the lines were given to its fan one after another
abbrev pub AfterLines : List (List ℕ) → SinkState × ℕ → SinkState × ℕ → Type 0
AfterLines [] old new = new ≡ old
AfterLines (line ∷ lines) old new =
    (mid : SinkState × ℕ) × IsGiven line old mid × AfterLines lines mid new

-- the sinks of a fan, after these decisions were audited
abbrev pub AreAudited : List ℕ → List Decided → List (SinkState × ℕ) → List (SinkState × ℕ) → Type 0
AreAudited plugin decided old new = AllZip (AfterLines (audit_lines plugin decided)) old new
