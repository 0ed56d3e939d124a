use Rattle.rg_acl.proofs.Counting.{tried_for}
use Rattle.rg_acl.proofs.asking.row_of.Goals as goal

pub returns-in_err-access-clause-work : goal.returns-in_err-access-clause-work
returns-in_err-access-clause-work g c = tried_for c.args.engine.now c.args.ask.now c.args.asker.now c.args.access.now _ c.args.steps.now c.verdict-verdict.new.steps c.in_ok-request.ensures c.verdict-verdict.ensures.steps

pub returns-clause-work : goal.returns-clause-work
returns-clause-work g c = tried_for c.args.engine.now c.args.ask.now c.args.asker.now c.args.access.now _ c.args.steps.now c.verdict-verdict.new.steps c.in_ok-request.ensures c.verdict-verdict.ensures.steps
