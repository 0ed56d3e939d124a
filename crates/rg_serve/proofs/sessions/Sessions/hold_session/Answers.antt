use Rattle.std.proofs.Common.{◌∙◌, None, refl, inl, inr, subst}
use Rattle.rg_link.specs.Sessions.{Counts, wire}
use Rattle.rg_link.specs.Workers.{worker_of}
use Rattle.rg_serve.specs.Trails.{IsSession}
use Rattle.rg_serve.proofs.sessions.Sessions.hold_session.Goals as goal

pub returns-in-Ok-clause-session : goal.returns-in-Ok-clause-session
returns-in-Ok-clause-session g c = λ _. subst (λ plugin. IsSession plugin c.args.seat.now c.args.pass.now c.serve_link.new.seat c.serve_link.new.pass) (c.as_str.ensures.read ∙ c.args.self.now.common.now.names.1) (
  record {
    before = worker_of c.args.seat.now c.args.pass.now None (g.H.RequestHooks.sinks c.args.hooks.now) (g.H.RequestHooks.enrichers c.args.hooks.now);
    after = worker_of c.serve_link.new.seat c.serve_link.new.pass None (g.H.RequestHooks.sinks c.serve_link.new.hooks) (g.H.RequestHooks.enrichers c.serve_link.new.hooks);
    met = wire (g.T.Link.left c.args.link) (g.T.Link.held c.args.link) (g.T.Link.ended c.args.link);
    left = wire (g.T.Link.left c.serve_link.new.link) (g.T.Link.held c.serve_link.new.link) (g.T.Link.ended c.serve_link.new.link);
    faults = g.T.Link.faults c.args.link;
    more_faults = g.T.Link.faults c.serve_link.new.link;
    over = inl (c.in-Ok.field-0.end, c.in-Ok.field-0.messages, c.in-Ok.ensures.served, c.in-Ok.ensures.faults);
  },
  refl,
  refl,
  refl,
  refl,
)

pub returns-in-Err-Failed-clause-session : goal.returns-in-Err-Failed-clause-session
returns-in-Err-Failed-clause-session g c = λ _. subst (λ plugin. IsSession plugin c.args.seat.now c.args.pass.now c.serve_link.new.seat c.serve_link.new.pass) (c.as_str.ensures.read ∙ c.args.self.now.common.now.names.1) (
  record {
    before = worker_of c.args.seat.now c.args.pass.now None (g.H.RequestHooks.sinks c.args.hooks.now) (g.H.RequestHooks.enrichers c.args.hooks.now);
    after = worker_of c.serve_link.new.seat c.serve_link.new.pass None (g.H.RequestHooks.sinks c.serve_link.new.hooks) (g.H.RequestHooks.enrichers c.serve_link.new.hooks);
    met = wire (g.T.Link.left c.args.link) (g.T.Link.held c.args.link) (g.T.Link.ended c.args.link);
    left = wire (g.T.Link.left c.serve_link.new.link) (g.T.Link.held c.serve_link.new.link) (g.T.Link.ended c.serve_link.new.link);
    faults = g.T.Link.faults c.args.link;
    more_faults = g.T.Link.faults c.serve_link.new.link;
    over = inr (
      c.in-Err-Failed.ensures.broken,
      subst (λ f. Counts f (g.T.Link.faults c.args.link) (g.T.Link.faults c.serve_link.new.link)) c.in-Err-Failed.field-0-is c.in-Err-Failed.ensures.faults,
    );
  },
  refl,
  refl,
  refl,
  refl,
)
