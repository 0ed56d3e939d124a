-- What a session did when it ended, and what it leaves when it breaks off.
use Rattle.std.specs.Prelude.{◌≡◌, ◌≤◌, ℕ, List, ◌++◌, length}
use mathlib.Core.List.{IsPrefix}
use Rattle.rg_base.specs.declared.numbers.Moment.{Moment}
use Rattle.rg_http.specs.declared.message.End.{End}
use Rattle.rg_http.specs.Answers.{IsRead, Wrote}
use Rattle.rg_http.specs.Messages.{Messages}
use Rattle.rg_hook.specs.Enriching.{EnricherState}
use Rattle.rg_link.specs.Answers.{end_text, texts}
use Rattle.rg_link.specs.Audits.{AreAudited, AreEnriched, Decided}
use Rattle.rg_link.specs.Sessions.{Fronts, IsCause, IsTail, MayHaveRun, Wire, message_limit}
use Rattle.rg_plugin_link.specs.Exchanges.{AreRight, Decider, Exchange, Leads, decided, messages, moments, responses}

-- A session that ended: the messages of the bytes read, all of them answered, and what is answered to the end. Each decision went
-- through the enrichers, and the audited ones to the sinks.
pub record Served (plugin : List ℕ) (a b : Decider) (old new : Wire) (end : End) (count : ℕ) : Type 0 where
  pub read : List ℕ
  pub exchanges : List Exchange
  pub reads : IsRead old.left read new.left
  pub are : Messages message_limit read (messages exchanges) end
  pub cause : IsCause end new.ended (messages exchanges)
  pub count_is : count ≡ length exchanges
  pub right : AreRight plugin b.pass.list exchanges
  pub leads : Leads a b (moments exchanges) (decided exchanges)
  pub written : Wrote old.held new.held (texts (responses exchanges) ++ end_text end)
  pub enriched : AreEnriched a.enrichers (decided exchanges) b.enrichers
  pub audited : AreAudited plugin (decided exchanges) a.sinks b.sinks

-- A session that broke off: these messages were answered whole, and a part of the last one's answer, or of the answer to a bad place
-- behind them, was written. One moment more may have been given. The first of the decisions were audited.
pub record Broken (plugin : List ℕ) (a b : Decider) (old new : Wire) : Type 0 where
  pub read : List ℕ
  pub whole : List Exchange
  pub last : List Exchange
  pub rest : List ℕ
  pub unused : List Moment
  pub audited : List Decided
  pub tail : List ℕ
  pub part : List ℕ
  pub ran : List EnricherState
  pub reads : IsRead old.left read new.left
  pub fronts : Fronts read (messages (whole ++ last)) rest
  pub right : AreRight plugin b.pass.list (whole ++ last)
  pub leads : Leads a b (moments (whole ++ last) ++ unused) (decided (whole ++ last))
  pub one : length last ≤ 1
  pub none_more : length unused ≤ 1
  pub behind : IsTail (responses last) rest tail
  pub written : Wrote old.held new.held (texts (responses whole) ++ part)
  pub begun : IsPrefix part (texts (responses last) ++ tail)
  pub enriched : AreEnriched a.enrichers (decided (whole ++ last)) ran
  pub run : MayHaveRun ran b.enrichers
  pub first : IsPrefix audited (decided (whole ++ last))
  pub lines : AreAudited plugin audited a.sinks b.sinks
