use Rattle.std.proofs.Common.{Contains, subst, sym}
use Rattle.std.proofs.lemmas.List.Elements.{Contains-get_or}
use Rattle.rg_delegate.specs.Compiled.{DefinedPolicy}
use Rattle.rg_delegate.proofs.delegation.delegating_items.Goals as goal

pub with_policy-requires : goal.with_policy-requires
with_policy-requires c =
    let policies = c.args.policies.now in
    let q = c.policy-item.result in
    c.requires q (subst (λ (x : DefinedPolicy). Contains policies x) (sym c.policy-item.is) (Contains-get_or policies c.loop-policy.policy-index q c.loop-policy-test.true))
