use Rattle.std.proofs.Common.{subst, sym}
use Rattle.rg_serve.specs.Opened.{Opened}
use Rattle.rg_run_kept.specs.Opening.{Begins}
use Rattle.rg_run_kept.proofs.Opens.{begins_so}
use Rattle.rg_run_kept.proofs.opening.open_kept.Goals as goal

pub returns : goal.returns
returns g c =
    subst (λ (o : Opened). Begins c.args.config c.args.workers o) (sym c.watched-opened.ensures)
    (begins_so c.args.config c.args.workers c.in_ok-admin.admin c.in_ok-over.field-0 c.halted_by-opened.result c.ask_again.new.opened c.in_ok-opened.opened _ _
    c.in_ok-admin.ensures.0 c.in_ok-over.ensures.opened c.in_ok-over.ensures.workers c.halted_by-opened.ensures c.in_ok-ask_again.ensures.start c.in_ok-ask_again.ensures.workers
    c.in_ok-opened.ensures.later)
