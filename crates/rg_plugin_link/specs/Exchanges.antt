-- What a plugin answers to the messages of a link.
use Rattle.std.specs.Prelude.{◌≡◌, ℕ, List, [], ◌∷◌, ◌++◌, All, MatchBool, Option, Some, map, length}
use mathlib.Core.List.{IsPrefix}
use Rattle.rg_base.specs.declared.numbers.Moment.{Moment}
use Rattle.rg_http.specs.declared.message.Message.{Message}
use Rattle.rg_http.specs.declared.message.Response.{Response}
use Rattle.rg_publish.specs.declared.history.Publication.{Publication}
use Rattle.rg_publish.specs.Passes.{Seeing}
use Rattle.rg_hook.specs.Enriching.{EnricherState}
use Rattle.rg_hook.specs.Told.{SinkState}
use Rattle.rg_rest.specs.declared.call.Call.{Call}
use Rattle.rg_rest.specs.declared.call.Call.TheVariants.{Admin, Decide, Answer}
use Rattle.rg_rest.specs.Bodies.{answer, no_path}
use Rattle.rg_rest.specs.Responses.{decision_response}
use Rattle.rg_rest.specs.Routes.{call_of}
use Rattle.rg_health.specs.declared.health.Health.{Health}
use Rattle.rg_health.specs.Health.{health_text}
use Rattle.rg_link.specs.Audits.{Decided, IsDecided}
use Rattle.rg_link.specs.Workers.{Rises, counted, serials}
use Rattle.rg_plugin_link.specs.Asks.{asks_health}

-- ---- one message

-- a message, when it was read, what was answered, and the decision, if one was made for it
pub record Exchange : Type 0 where
  pub message : Message
  pub moment : Moment
  pub response : Response
  pub decided : List Decided

-- how the plugin stood at some moment
abbrev pub IsHealth : Exchange → Type 0
IsHealth x = (h : Health) × (x.response ≡ answer 200 (health_text h) x.message.close) × (x.decided ≡ [])

-- A decision is the written flow over the publication of its serial. What an administration would do isn't here.
abbrev pub IsAnswer : List Publication → Exchange → Call → Type 0
IsAnswer pubs x (Answer response) = (x.response ≡ response) × (x.decided ≡ [])
IsAnswer pubs x (Admin command part) = (x.response ≡ no_path x.message.close) × (x.decided ≡ [])
IsAnswer pubs x (Decide request) =
    (d : Decided) × (x.decided ≡ d ∷ []) × (d.asked ≡ request) × IsDecided pubs d × (x.response ≡ decision_response d.decision x.message.close)

-- the message is answered as a plugin of this service does over these publications
abbrev pub IsRight : List ℕ → List Publication → Exchange → Type 0
IsRight plugin pubs x = MatchBool (asks_health x.message) (IsHealth x) (IsAnswer pubs x (call_of plugin x.message x.moment))

-- ---- all of them, in order

abbrev pub messages : List Exchange → List Message
messages xs = map (λ (x : Exchange). x.message) xs

abbrev pub moments : List Exchange → List Moment
moments xs = map (λ (x : Exchange). x.moment) xs

abbrev pub responses : List Exchange → List Response
responses xs = map (λ (x : Exchange). x.response) xs

abbrev pub decided : List Exchange → List Decided
decided [] = []
decided (x ∷ xs) = x.decided ++ decided xs

abbrev pub AreRight : List ℕ → List Publication → List Exchange → Type 0
AreRight plugin pubs xs = All (IsRight plugin pubs) xs

-- ---- what a link changes of its worker

-- a pass, the moments that a clock gave, where it tells them, the sinks, each with its number of failures, and the enrichers
pub record Decider : Type 0 where
  pub pass : Seeing
  pub given : Option (List Moment)
  pub sinks : List (SinkState × ℕ)
  pub enrichers : List EnricherState

abbrev pub decider_of : Seeing → Option (List Moment) → List (SinkState × ℕ) → List EnricherState → Decider
decider_of pass given sinks enrichers = record { pass = pass; given = given; sinks = sinks; enrichers = enrichers }

-- From a to b these moments were given and these decisions made. The pass is of the same publisher; the serials never fall, from its
-- own at first to its own at last. No word on sinks and enrichers.
pub record Leads (a b : Decider) (given : List Moment) (made : List Decided) : Type 0 where
  pub told : (before : List Moment) → a.given ≡ Some before → b.given ≡ Some (before ++ given)
  pub publisher : b.pass.book ≡ a.pass.book
  pub list : IsPrefix a.pass.list b.pass.list
  pub rises : Rises (length a.pass.list) (serials made) (length b.pass.list)
  pub answered : b.pass.answered ≡ counted (length made) a.pass.answered
