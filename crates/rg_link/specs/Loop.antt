-- One message of a session, and where its loop stands. Only proofs and the functions below the session need it.
use Rattle.std.specs.Prelude.{◌≡◌, ◌⊎◌, ℕ, List, [], ◌∷◌, length, Option, false}
use mathlib.Core.List.{IsPrefix}
use Rattle.rg_base.specs.declared.numbers.Moment.{Moment}
use Rattle.rg_policy.specs.declared.request.AccessRequest.{AccessRequest}
use Rattle.rg_facts.specs.declared.decision.Decision.{Decision}
use Rattle.rg_admin_laws.specs.Logs.{Administration}
use Rattle.rg_turn.specs.Values.{IsCalled, SeatValue}
use Rattle.rg_publish.specs.Passes.{Seeing, risen}
use Rattle.rg_hook.specs.Enriching.{EnricherState}
use Rattle.rg_cmd.specs.declared.ask.AdminCommand.{AdminCommand}
use Rattle.rg_cmd.specs.declared.download.Part.{Part}
use Rattle.rg_rest.specs.declared.call.Call.TheVariants.{Admin}
use Rattle.rg_rest.specs.Responses.{response_of}
use Rattle.rg_cmd.specs.declared.ask.AdminReply.{AdminReply}
use Rattle.rg_cmd.specs.declared.ask.Ask.{Ask}
use Rattle.rg_turn.specs.declared.rule.Entry.{Entry}
use Rattle.rg_http.specs.declared.message.Message.{Message}
use Rattle.rg_http.specs.declared.message.Response.{Response}
use Rattle.rg_http.specs.Answers.{IsRead, Wrote}
use Rattle.rg_http.specs.Print.{response_text}
use Rattle.rg_rest.specs.Routes.{call_of}
use Rattle.rg_link.specs.Answers.{Answers, NothingLeft, Takes, ask_of, texts}
use Rattle.rg_link.specs.Audits.{AreAudited, AreEnriched, Decided, IsDecided}
use Rattle.rg_link.specs.Sessions.{Fronts, MayHaveRun, Wire}
use Rattle.rg_link.specs.Workers.{Leads, Worker}

-- the message, answered by r, leads from a to b
pub record IsAnswered (plugin : List ℕ) (a b : Worker) (m : Message) (r : Response) : Type 0 where
  pub moment : Moment
  pub own : List (Entry Ask AdminReply)
  pub decided : List Decided
  pub leads : Leads a b (moment ∷ []) own decided
  pub step : Takes b.pass.list m (call_of plugin m moment) NothingLeft own decided r
  pub enriched : AreEnriched a.enrichers decided b.enrichers

-- the message was answered whole, and audited where that is due
pub record IsServed (plugin : List ℕ) (a b : Worker) (before after : Option (List ℕ)) (m : Message) : Type 0 where
  pub response : Response
  pub answered : IsAnswered plugin a b m response
  pub written : Wrote before after (response_text response)
  pub audited : AreAudited plugin answered.decided a.sinks b.sinks

-- a message that has no answer: no entry was made for it, and no decision
pub record IsUnanswered (a b : Worker) : Type 0 where
  pub moment : Moment
  pub leads : Leads a b (moment ∷ []) [] []
  pub run : MayHaveRun a.enrichers b.enrichers

-- a message that wasn't served: it has no answer, or only a part of its answer was written, or its decision wasn't audited
abbrev pub Unserved : List ℕ → Worker → Worker → Option (List ℕ) → Option (List ℕ) → Message → Type 0
Unserved plugin a b before after m =
    (b.sinks ≡ a.sinks)
    × ((IsUnanswered a b × Wrote before after [])
    ⊎ ((r : Response) × (part : List ℕ) × IsAnswered plugin a b m r × Wrote before after part × IsPrefix part (response_text r)))

-- none of them asks to close
abbrev pub StayOpen : List Message → Type 0
StayOpen [] = Unit {0}
StayOpen (m ∷ ms) = (m.close ≡ false) × StayOpen ms

-- where the loop stands: these messages were answered whole, none of them asked to close, and the framer keeps what was read behind them
pub record Going (plugin : List ℕ) (a b : Worker) (old new : Wire) (kept : List ℕ) (count : ℕ) : Type 0 where
  pub read : List ℕ
  pub messages : List Message
  pub moments : List Moment
  pub own : List (Entry Ask AdminReply)
  pub decided : List Decided
  pub responses : List Response
  pub reads : IsRead old.left read new.left
  pub fronts : Fronts read messages kept
  pub stay : StayOpen messages
  pub count_is : count ≡ length messages
  pub leads : Leads a b moments own decided
  pub answers : Answers plugin b.pass.list messages moments own decided responses
  pub written : Wrote old.held new.held (texts responses)
  pub enriched : AreEnriched a.enrichers decided b.enrichers
  pub audited : AreAudited plugin decided a.sinks b.sinks

abbrev pub decided : AccessRequest → AccessRequest → ℕ → Decision → Decided
decided asked request serial decision = record { asked = asked; request = request; serial = serial; decision = decision }

-- the seat called the administration as the message asks, and the response tells the reply
pub record IsCall (old new : SeatValue Ask AdminReply Administration) (m : Message) (command : AdminCommand) (part : Part) (r : Response) : Type 0 where
  pub reply : AdminReply
  pub turn : new.turn ≡ old.turn
  pub begins : IsPrefix old.history new.history
  pub called : IsCalled old (ask_of m command) reply new
  pub response : r ≡ response_of (Admin command part) reply m.close

-- no entry was made
pub record IsUncalled (old new : SeatValue Ask AdminReply Administration) : Type 0 where
  pub turn : new.turn ≡ old.turn
  pub begins : IsPrefix old.history new.history
  pub calls : new.calls ≡ old.calls

-- the pass decided the request that the enrichers made of this one
pub record IsJudged (old new : Seeing) (es fs : List EnricherState) (asked : AccessRequest) (d : Decided) : Type 0 where
  pub publisher : new.book ≡ old.book
  pub list : IsPrefix old.list new.list
  pub answered : new.answered ≡ risen old.answered
  pub serial : d.serial ≡ length new.list
  pub is : IsDecided new.list d
  pub same : d.asked ≡ asked
  pub enriched : AreEnriched es (d ∷ []) fs

-- no decision was made
pub record IsUnjudged (old new : Seeing) (es fs : List EnricherState) : Type 0 where
  pub publisher : new.book ≡ old.book
  pub list : IsPrefix old.list new.list
  pub answered : new.answered ≡ old.answered
  pub run : MayHaveRun es fs
