-- What a session did when it ended, and what it leaves when it breaks off.
use Rattle.std.specs.Prelude.{◌≡◌, ◌≤◌, ◌<◌, ◌⊎◌, ℕ, List, [], ◌∷◌, ◌++◌, length, Option, Some, Bool, true}
use mathlib.Core.List.{IsPrefix}
use Rattle.rg_base.specs.declared.numbers.Moment.{Moment}
use Rattle.rg_policy.specs.declared.request.AccessRequest.{AccessRequest}
use Rattle.rg_cmd.specs.declared.ask.AdminReply.{AdminReply}
use Rattle.rg_cmd.specs.declared.ask.Ask.{Ask}
use Rattle.rg_turn.specs.declared.rule.Entry.{Entry}
use Rattle.rg_http.specs.declared.message.Message.{Message}
use Rattle.rg_http.specs.declared.message.Response.{Response}
use Rattle.rg_http.specs.declared.message.End.{End}
use Rattle.rg_http.specs.declared.message.End.TheVariants.{Ended, Cut, Bad, Full}
use Rattle.rg_http.specs.declared.message.FrameFault.{FrameFault}
use Rattle.rg_http.specs.declared.message.FrameFault.TheVariants.{Failed as FrameFailed, NoMemory as FrameNoMemory}
use Rattle.rg_http.specs.Answers.{IsRead, Wrote}
use Rattle.rg_http.specs.Framing.{HasMessage, HasBad}
use Rattle.rg_http.specs.Messages.{Messages}
use Rattle.rg_hook.specs.Enriching.{EnricherState, HaveRun}
use Rattle.rg_link.specs.declared.report.LinkFault.{LinkFault}
use Rattle.rg_link.specs.declared.report.LinkFault.TheVariants.{Failed, NoMemory}
use Rattle.rg_link.specs.Answers.{Answers, end_text, texts}
use Rattle.rg_link.specs.Audits.{AreAudited, AreEnriched, Decided}
use Rattle.rg_link.specs.Workers.{Leads, Worker}

-- the most messages of a session
abbrev pub message_limit : ℕ
message_limit = 10000

-- what contracts see of a link: the bytes to come and the bytes taken, where it tells them, and whether a read has met the end
pub record Wire : Type 0 where
  pub left : Option (List ℕ)
  pub held : Option (List ℕ)
  pub ended : Bool

abbrev pub wire : Option (List ℕ) → Option (List ℕ) → Bool → Wire
wire left held ended = record { left = left; held = held; ended = ended }

-- the last of these messages asks to close
abbrev pub AsksLast : List Message → Type 0
AsksLast ms = (front : List Message) × (m : Message) × (ms ≡ front ++ m ∷ []) × (m.close ≡ true)

-- the cause of an end beside the bytes: Ended where the link has ended or an answered message asked to close, Cut where the link has ended
abbrev pub IsCause : End → Bool → List Message → Type 0
IsCause Ended ended ms = (ended ≡ true) ⊎ AsksLast ms
IsCause Cut ended ms = ended ≡ true
IsCause (Bad status) ended ms = Unit {0}
IsCause Full ended ms = Unit {0}

-- A session that ended: the messages of the bytes read, all of them answered, and what is answered to the end. Each decision went
-- through the enrichers, and the audited ones to the sinks.
pub record Served (plugin : List ℕ) (a b : Worker) (old new : Wire) (end : End) (count : ℕ) : Type 0 where
  pub read : List ℕ
  pub messages : List Message
  pub moments : List Moment
  pub own : List (Entry Ask AdminReply)
  pub decided : List Decided
  pub responses : List Response
  pub reads : IsRead old.left read new.left
  pub are : Messages message_limit read messages end
  pub cause : IsCause end new.ended messages
  pub count_is : count ≡ length messages
  pub leads : Leads a b moments own decided
  pub answers : Answers plugin b.pass.list messages moments own decided responses
  pub written : Wrote old.held new.held (texts responses ++ end_text end)
  pub enriched : AreEnriched a.enrichers decided b.enrichers
  pub audited : AreAudited plugin decided a.sinks b.sinks

-- the messages stand at the front of the bytes, one after another, and rest follows
abbrev pub Fronts : List ℕ → List Message → List ℕ → Type 0
Fronts bytes [] rest = bytes ≡ rest
Fronts bytes (m ∷ ms) rest = (next : List ℕ) × HasMessage bytes m next × Fronts next ms rest

-- what is answered behind the last message: nothing, or what a bad place there gets
abbrev pub IsTail : List Response → List ℕ → List ℕ → Type 0
IsTail last rest tail = (tail ≡ []) ⊎ ((status : ℕ) × (last ≡ []) × (tail ≡ end_text (Bad status)) × HasBad rest status)

-- the enrichers are as they were, or some of them have run for one more request
abbrev pub MayHaveRun : List EnricherState → List EnricherState → Type 0
MayHaveRun old new = (new ≡ old) ⊎ ((request : AccessRequest) × HaveRun old request new)

-- A session that broke off: all of these messages but the last were answered whole. A part of the last one's answer, or of the answer
-- to a bad place behind them, was written. All entries and decisions, the last one's too, have an answer here, so at most the last may
-- stand unanswered; one moment more may have been given. The first of the decisions were audited.
pub record Broken (plugin : List ℕ) (a b : Worker) (old new : Wire) : Type 0 where
  pub read : List ℕ
  pub messages : List Message
  pub rest : List ℕ
  pub moments : List Moment
  pub unused : List Moment
  pub own : List (Entry Ask AdminReply)
  pub decided : List Decided
  pub audited : List Decided
  pub whole : List Response
  pub last : List Response
  pub tail : List ℕ
  pub part : List ℕ
  pub ran : List EnricherState
  pub reads : IsRead old.left read new.left
  pub fronts : Fronts read messages rest
  pub leads : Leads a b (moments ++ unused) own decided
  pub answers : Answers plugin b.pass.list messages moments own decided (whole ++ last)
  pub one : length last ≤ 1
  pub none_more : length unused ≤ 1
  pub behind : IsTail last rest tail
  pub written : Wrote old.held new.held (texts whole ++ part)
  pub begun : IsPrefix part (texts last ++ tail)
  pub enriched : AreEnriched a.enrichers decided ran
  pub run : MayHaveRun ran b.enrichers
  pub first : IsPrefix audited decided
  pub lines : AreAudited plugin audited a.sinks b.sinks

-- the link's count of faults rises where the fault is the link's, and else stands still
abbrev pub Counts : LinkFault → ℕ → ℕ → Type 0
Counts Failed before after = before < after
Counts NoMemory before after = after ≡ before

-- a framer's fault as the session's
abbrev pub IsFault : FrameFault → LinkFault → Type 0
IsFault FrameFailed f = f ≡ Failed
IsFault FrameNoMemory f = f ≡ NoMemory
