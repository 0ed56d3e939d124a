use Rattle.std.proofs.Common.{subst}
use Rattle.rg_validate.specs.Valid.{IsKept}
use Rattle.rg_admin_laws.specs.Logs.{Administration}
use Rattle.rg_admin.proofs.Reaching.{reached_kept}
use Rattle.rg_admin.proofs.admin.Admin.state.Goals as goal

pub returns-clause-kept : goal.returns-clause-kept
returns-clause-kept g c = subst (λ (a : Administration). IsKept a.state) c.self.view_is (reached_kept c.states_are_kept.ensures _ c.self.invariant.0)
