use Rattle.std.proofs.Common.{◌≡◌, ◌≤◌, ◌-◌, true}
use Rattle.std.specs.Str.{chars}
use Rattle.rg_link.specs.Sessions.{message_limit, wire}
use Rattle.rg_plugin_link.specs.Exchanges.{decider_of}
use Rattle.rg_plugin_link.specs.Loop.{Going}
use Rattle.rg_plugin_link.proofs.link.Desk.serve_link.Given as goal

abbrev pub invariant-loop-messages : goal.invariant-loop-messages
invariant-loop-messages g l = record {
  live : l.framer.live ≡ true;
  faults : g.T.Link.faults l.link ≡ g.T.Link.faults l.fn.link;
  within : l.messages ≤ message_limit;
  going : Going (chars l.self.deciding.plugin.now)
      (decider_of l.fn.pass (g.C.Clock.given l.fn.clock) (g.H.RequestHooks.sinks l.fn.hooks) (g.H.RequestHooks.enrichers l.fn.hooks))
      (decider_of l.pass (g.C.Clock.given l.clock) (g.H.RequestHooks.sinks l.hooks) (g.H.RequestHooks.enrichers l.hooks))
      (wire (g.T.Link.left l.fn.link) (g.T.Link.held l.fn.link) (g.T.Link.ended l.fn.link))
      (wire (g.T.Link.left l.link) (g.T.Link.held l.link) (g.T.Link.ended l.link))
      l.framer.bytes l.messages;
}

abbrev pub decreases-loop-messages : goal.decreases-loop-messages
decreases-loop-messages g l = message_limit - l.messages
