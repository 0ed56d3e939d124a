use Rattle.std.proofs.Common.{◌≡◌, ◌≤◌, ◌-◌, true}
use Rattle.std.specs.Str.{chars}
use Rattle.rg_link.specs.Loop.{Going}
use Rattle.rg_link.specs.Sessions.{message_limit, wire}
use Rattle.rg_link.specs.Workers.{worker_of}
use Rattle.rg_link.proofs.link.answer_messages.Given as goal

abbrev pub invariant-loop-messages : goal.invariant-loop-messages
invariant-loop-messages g l = record {
  live : l.framer.live ≡ true;
  faults : g.T.Link.faults l.link ≡ g.T.Link.faults l.fn.link;
  within : l.messages ≤ message_limit;
  going : Going (chars l.setting.deciding.plugin.now)
      (worker_of l.fn.seat l.fn.pass (g.C.Clock.given l.fn.clock) (g.H.RequestHooks.sinks l.fn.hooks) (g.H.RequestHooks.enrichers l.fn.hooks))
      (worker_of l.seat l.pass (g.C.Clock.given l.clock) (g.H.RequestHooks.sinks l.hooks) (g.H.RequestHooks.enrichers l.hooks))
      (wire (g.T.Link.left l.fn.link) (g.T.Link.held l.fn.link) (g.T.Link.ended l.fn.link))
      (wire (g.T.Link.left l.link) (g.T.Link.held l.link) (g.T.Link.ended l.link))
      l.framer.bytes l.messages;
}

abbrev pub decreases-loop-messages : goal.decreases-loop-messages
decreases-loop-messages g l = message_limit - l.messages
