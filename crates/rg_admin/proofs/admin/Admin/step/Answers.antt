use Rattle.rg_admin.proofs.Reaching.{reached_after, reached_kept, reached_packed}
use Rattle.rg_admin.proofs.Stepping.{opened, stays}
use Rattle.rg_admin.proofs.admin.Admin.step.Goals as goal

pub step_held-requires-clause-kept : goal.step_held-requires-clause-kept
step_held-requires-clause-kept g c = reached_kept c.states_are_kept.ensures _ c.self.invariant.0

pub step_held-requires-clause-packed : goal.step_held-requires-clause-packed
step_held-requires-clause-packed g c = reached_packed _ c.self.invariant.0

pub step_held-requires-clause-counted : goal.step_held-requires-clause-counted
step_held-requires-clause-counted g c = c.self.invariant.1

pub step_held-requires-clause-holds : goal.step_held-requires-clause-holds
step_held-requires-clause-holds g c = c.self.invariant.2

pub invariant_of-self : goal.invariant_of-self
invariant_of-self g c = (
  reached_after _ _ c.args.ask c.step_held.result c.self.invariant.0 c.step_held.ensures.ok c.step_held.ensures.err,
  c.step_held.ensures.counted,
  c.step_held.ensures.holds,
)

pub returns-clause-ok : goal.returns-clause-ok
returns-clause-ok g c = opened c.step_held.result _ c.self.view_is c.args.ask _ c.step_held.ensures.ok

pub returns-clause-err : goal.returns-clause-err
returns-clause-err g c = stays c.step_held.result _ _ c.self.view_is c.step_held.ensures.err
