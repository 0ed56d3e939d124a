use Rattle.std.proofs.Common.{subst, sym}
use Rattle.rg_base.specs.Listed.{Listed}
use Rattle.rg_policy.specs.declared.policy.Policy.{Policy}
use Rattle.rg_same_resources.specs.Counts.{IsCounted}
use Rattle.rg_admin.specs.Held.{administration_of}
use Rattle.rg_admin.proofs.Reaching.{reached_start}
use Rattle.rg_admin.proofs.admin.Admin.opened.Goals as goal

pub invariant_of-result : goal.invariant_of-result
invariant_of-result c = (
  reached_start (administration_of c.args.state c.args.logs.items) c.requires.starts c.requires.packed,
  subst (λ (l : Listed Policy). IsCounted c.args.counts l.items) (sym c.requires.starts.policies) c.requires.counted,
  tt,
)
