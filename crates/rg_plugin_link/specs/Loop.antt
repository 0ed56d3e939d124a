-- One message of a session, and where its loop stands. Only proofs and the functions below the session need it.
use Rattle.std.specs.Prelude.{◌≡◌, ◌⊎◌, ℕ, List, [], ◌∷◌, length, false, Option}
use mathlib.Core.List.{IsPrefix}
use Rattle.rg_base.specs.declared.numbers.Moment.{Moment}
use Rattle.http.specs.StatusCode.{IsStatusCode}
use Rattle.rg_http.specs.declared.message.Message.{Message}
use Rattle.rg_http.specs.declared.message.Response.{Response}
use Rattle.rg_http.specs.Answers.{IsRead, Wrote}
use Rattle.rg_http.specs.Print.{response_text}
use Rattle.rg_publish.specs.declared.history.Publication.{Publication}
use Rattle.rg_rest.specs.declared.call.Call.TheVariants.{Decide}
use Rattle.rg_rest.specs.Routes.{call_of}
use Rattle.rg_link.specs.Answers.{texts}
use Rattle.rg_link.specs.Audits.{AreAudited, AreEnriched}
use Rattle.rg_link.specs.Loop.{StayOpen}
use Rattle.rg_link.specs.Sessions.{Fronts, MayHaveRun, Wire}
use Rattle.rg_plugin_link.specs.declared.asks.Asked.{Asked}
use Rattle.rg_plugin_link.specs.declared.asks.Asked.TheVariants as asked
use Rattle.rg_plugin_link.specs.Asks.{asks_health}
use Rattle.rg_plugin_link.specs.Exchanges.{AreRight, Decider, Exchange, IsRight, Leads, decided, messages, moments, responses}

-- ---- one message

-- an exchange without a decision
abbrev pub undecided : Message → Moment → Response → Exchange
undecided m moment response = record { message = m; moment = moment; response = response; decided = [] }

-- what the message asks at this moment: a decision, or only a response, which is right whatever was published
abbrev pub IsAsked : List ℕ → Message → Moment → Asked → Type 0
IsAsked plugin m moment (asked.Decision request) = (asks_health m ≡ false) × (call_of plugin m moment ≡ Decide request)
IsAsked plugin m moment (asked.Response response) =
    IsStatusCode response.status × ((pubs : List Publication) → IsRight plugin pubs (undecided m moment response))

-- the message is that of the exchange, which leads from a to b
pub record IsExchanged (plugin : List ℕ) (a b : Decider) (m : Message) (x : Exchange) : Type 0 where
  pub message : x.message ≡ m
  pub right : IsRight plugin b.pass.list x
  pub leads : Leads a b (x.moment ∷ []) x.decided
  pub enriched : AreEnriched a.enrichers x.decided b.enrichers

-- the message was answered whole, and audited where that is due
pub record IsServed (plugin : List ℕ) (a b : Decider) (before after : Option (List ℕ)) (m : Message) : Type 0 where
  pub exchange : Exchange
  pub exchanged : IsExchanged plugin a b m exchange
  pub written : Wrote before after (response_text exchange.response)
  pub audited : AreAudited plugin exchange.decided a.sinks b.sinks

-- a message that has no answer: no decision was made for it
pub record IsUnanswered (a b : Decider) : Type 0 where
  pub moment : Moment
  pub leads : Leads a b (moment ∷ []) []
  pub run : MayHaveRun a.enrichers b.enrichers

-- a message that wasn't served: it has no answer, or only a part of its answer was written, or its decision wasn't audited
abbrev pub Unserved : List ℕ → Decider → Decider → Option (List ℕ) → Option (List ℕ) → Message → Type 0
Unserved plugin a b before after m =
    (b.sinks ≡ a.sinks)
    × ((IsUnanswered a b × Wrote before after [])
    ⊎ ((x : Exchange) × (part : List ℕ) × IsExchanged plugin a b m x × Wrote before after part × IsPrefix part (response_text x.response)))

-- ---- the loop

-- where the loop stands: these messages were answered whole, none of them asked to close, and the framer keeps what was read behind them
pub record Going (plugin : List ℕ) (a b : Decider) (old new : Wire) (kept : List ℕ) (count : ℕ) : Type 0 where
  pub read : List ℕ
  pub exchanges : List Exchange
  pub reads : IsRead old.left read new.left
  pub fronts : Fronts read (messages exchanges) kept
  pub stay : StayOpen (messages exchanges)
  pub count_is : count ≡ length exchanges
  pub right : AreRight plugin b.pass.list exchanges
  pub leads : Leads a b (moments exchanges) (decided exchanges)
  pub written : Wrote old.held new.held (texts (responses exchanges))
  pub enriched : AreEnriched a.enrichers (decided exchanges) b.enrichers
  pub audited : AreAudited plugin (decided exchanges) a.sinks b.sinks
