-- What enrichers do to a request.
use Rattle.std.specs.Prelude.{ℕ, ◌≡◌, ◌≤◌, List, [], ◌∷◌, ◌++◌, length, take, drop, Option, Some, None}
use Rattle.rg_base.specs.Listed.{added, listed}
use Rattle.rg_base.specs.declared.pair.Pair.{Pair}
use Rattle.rg_policy.specs.declared.request.AccessRequest.{AccessRequest}

-- what an enricher makes of a request: the numbers that it remembers then, and a pair, if it has one
pub record Enriched : Type 0 where
  pub remembered : List ℕ
  pub pair : Option Pair

-- an enricher: what it makes of a request while it remembers some numbers, and the numbers that it remembers
pub record EnricherState : Type 0 where
  pub meaning : List ℕ → AccessRequest → Enriched
  pub remembered : List ℕ

-- the state of an enricher that tells these two
abbrev pub state_by : {E : Type 0} → (E → List ℕ → AccessRequest → Enriched) → (E → List ℕ) → E → EnricherState
state_by meaning remembered e = record { meaning = meaning e; remembered = remembered e }

-- the request with the pair, if there is one, behind those of its context
abbrev pub with_pair : AccessRequest → Option Pair → AccessRequest
with_pair request None = request
with_pair request (Some pair) = record request { context = added request.context pair }

-- an enricher that has run, and its request
abbrev pub has_run : EnricherState → AccessRequest → EnricherState
has_run e request = record e { remembered = (e.meaning e.remembered request).remembered }

abbrev pub request_after : EnricherState → AccessRequest → AccessRequest
request_after e request = with_pair request (e.meaning e.remembered request).pair

-- enrichers, and a request
pub record Enriching : Type 0 where
  pub enrichers : List EnricherState
  pub request : AccessRequest

-- one more enricher in front
abbrev pub onto : EnricherState → Enriching → Enriching
onto e rest = record { enrichers = e ∷ rest.enrichers; request = rest.request }

-- after the enrichers have run in turn, each on the request with the pairs of those before it
abbrev pub enriched : List EnricherState → AccessRequest → Enriching
enriched [] request = record { enrichers = []; request = request }
enriched (e ∷ es) request = onto (has_run e request) (enriched es (request_after e request))

-- the first n of the enrichers have run, and the others are as they were
pub record HaveRun (old : List EnricherState) (request : AccessRequest) (new : List EnricherState) : Type 0 where
  pub n : ℕ
  pub within : n ≤ length old
  pub states : new ≡ (enriched (take n old) request).enrichers ++ drop n old

-- the request with the first pairs of its context alone, so many, and no place reserved
abbrev pub cut : ℕ → AccessRequest → AccessRequest
cut n request = record request { context = listed (take n request.context.items) }

-- the request with no place reserved in its context
abbrev pub unreserved : AccessRequest → AccessRequest
unreserved request = record request { context = listed request.context.items }
