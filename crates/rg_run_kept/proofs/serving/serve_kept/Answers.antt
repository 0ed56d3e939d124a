use Rattle.std.proofs.Common.{◌∙◌, sym}
use Rattle.rg_run_kept.proofs.Endings.{read_fault_counted, unread_not_done, unread_not_net, unread_not_usage, write_fault_counted}
use Rattle.rg_run_kept.proofs.serving.serve_kept.Goals as goal

pub returns-in-Err-clause-done : goal.returns-in-Err-clause-done
returns-in-Err-clause-done g c = λ is. absurd (unread_not_done _ _ c.in-Err.status (c.in-Err.ensures.unread (g.C.Clock.given c.args.clock.now)) (sym c.give_back.ensures.0 ∙ is))

pub returns-in-Err-clause-usage : goal.returns-in-Err-clause-usage
returns-in-Err-clause-usage g c = λ is. unread_not_usage _ _ c.in-Err.status (c.in-Err.ensures.unread (g.C.Clock.given c.args.clock.now)) (sym c.give_back.ensures.0 ∙ is)

pub returns-in-Err-clause-unread : goal.returns-in-Err-clause-unread
returns-in-Err-clause-unread g c = λ is. read_fault_counted _ _ c.in-Err.status (c.in-Err.ensures.unread (g.C.Clock.given c.args.clock.now)) (sym c.give_back.ensures.0 ∙ is)

pub returns-in-Err-clause-unwritten : goal.returns-in-Err-clause-unwritten
returns-in-Err-clause-unwritten g c = λ is. write_fault_counted _ _ c.in-Err.status (c.in-Err.ensures.unread (g.C.Clock.given c.args.clock.now)) (sym c.give_back.ensures.0 ∙ is)

pub returns-in-Err-clause-unserved : goal.returns-in-Err-clause-unserved
returns-in-Err-clause-unserved g c = λ is. absurd (unread_not_net _ _ c.in-Err.status (c.in-Err.ensures.unread (g.C.Clock.given c.args.clock.now)) (sym c.give_back.ensures.0 ∙ is))
