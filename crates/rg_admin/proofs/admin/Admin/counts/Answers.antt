use Rattle.std.proofs.Common.{subst}
use Rattle.rg_same_resources.specs.Counts.{IsCounted}
use Rattle.rg_admin_laws.specs.Logs.{Administration}
use Rattle.rg_admin.proofs.admin.Admin.counts.Goals as goal

pub returns : goal.returns
returns g c = subst (λ (a : Administration). IsCounted c.self.inside.counts a.state.policies.items) c.self.view_is c.self.invariant.1
