use Rattle.std.proofs.Common.{subst}
use Rattle.rg_remote.specs.Remotes.{Far, HasNoReply}
use Rattle.rg_remote.proofs.Telling.{no_reply}
use Rattle.rg_remote.proofs.remote.Remote.ask.Goals as goal

pub returns-clause-unanswered : goal.returns-clause-unanswered
returns-clause-unanswered g c =
    let it = c.self.inside in
    let before : Far = record {
      left = g.T.Link.left it.link;
      held = g.T.Link.held it.link;
      faults = g.T.Link.faults it.link;
      bytes = it.client.bytes;
      live = it.client.live;
      host = it.host;
      user = it.user;
      service = it.service;
    } in
    let after : Far = record {
      left = g.T.Link.left c.ask.new.link;
      held = g.T.Link.held c.ask.new.link;
      faults = g.T.Link.faults c.ask.new.link;
      bytes = c.ask.new.self.bytes;
      live = c.ask.new.self.live;
      host = it.host;
      user = it.user;
      service = it.service;
    } in
    let answer = c.in-Err-ask.ensures.answer in
    subst (λ (old : Far). HasNoReply c.in-Err-ask.fault old after) c.self.view_is (no_reply c.in-Err-ask.fault before after answer.0 answer.1 answer.2 c.in-Err-ask.ensures.faults)
