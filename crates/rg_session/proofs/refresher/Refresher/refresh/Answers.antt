use Rattle.rg_session.proofs.Downloaded.{taken}
use Rattle.rg_session.proofs.Refreshed.{stays_right}
use Rattle.rg_session.proofs.refresher.Refresher.refresh.Goals as goal

pub returns-in-Ok-take-clause-right : goal.returns-in-Ok-take-clause-right
returns-in-Ok-take-clause-right g c =
    stays_right c.args.turn.now.start c.args.seat.now c.document.new.seat c.args.self.now.service c.args.self.now.publisher.list c.in-Ok.document c.in-Ok.ensures.came
    c.one_more_is_right.ensures c.take.new.publisher.list c.in-Ok-take.refresh c.in-Ok-take.ensures.taken c.in-Ok.ensures.right

pub returns-in-Ok-take-clause-made : goal.returns-in-Ok-take-clause-made
returns-in-Ok-take-clause-made g c =
    taken c.args.turn.now.start c.args.seat.now c.document.new.seat c.args.self.now.service c.args.self.now.publisher.list c.in-Ok.document c.in-Ok.ensures.came
    c.requires.service c.take.new.publisher.list c.in-Ok-take.refresh c.in-Ok-take.ensures.taken
