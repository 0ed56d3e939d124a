use Rattle.std.proofs.Common.{ap, sym}
use Rattle.rg_run_replay.specs.Held.{held}
use Rattle.rg_run_replay.proofs.Holding.{refreshed_as, refreshed_then}
use Rattle.rg_run_replay.proofs.running.Running.refresh.Goals as goal

pub returns-in-Ok-clause-refreshed : goal.returns-in-Ok-clause-refreshed
returns-in-Ok-clause-refreshed g c =
    let turn = c.self.inside.turn in
    let refresher = c.self.inside.refresher in
    let after = c.refresh-refreshed.new.seat in
    let list = c.refresh-refreshed.new.self.publisher.list in
    refreshed_as _ _ _ _ (held turn after refresher.service list) _ c.self.view_is c.serial_in.ensures
    (ap (λ s. held turn after s list) (sym c.refresh-refreshed.ensures.same.2))
    (refreshed_then c.one_more_entry.ensures.reply c.one_more_entry.ensures.state c.documents_lead.ensures turn c.self.inside.seat after refresher.service refresher.publisher.list
    c.refresh-refreshed.new.self.seq c.self.invariant.starts c.self.invariant.serves c.self.invariant.alone c.self.invariant.right c.knows.ensures.legal c.knows.ensures.bounded
    c.in-Ok.ensures.downloaded list c.in-Ok.refresh c.in-Ok.ensures.refreshed)
