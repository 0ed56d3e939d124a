use Rattle.std.proofs.Common.{ap, sym, ◌∙◌}
use Rattle.rg_base.specs.Listed.{listed}
use Rattle.rg_policy.specs.declared.policy.Policy.{Policy}
use Rattle.rg_admin.specs.InPlace.{without_at}
use Rattle.rg_admin.proofs.Firsts.{without_by_id}
use Rattle.rg_admin.proofs.numbered.delete_policy.Goals as goal

pub returns : goal.returns
returns c =
    let old = c.args.state.now.policies.items in
    let first = ap (λ place. without_at place old) c.place_of-place.ensures.first in
    let list = c.take_away.ensures ∙ ap listed (first ∙ sym (without_by_id (λ (p : Policy). p.id.0) c.args.id.0 old c.requires.distinct)) in
    λ i. record c.args.state.now { policies = list i }
