use Rattle.std.proofs.Common.{◌≡◌, ◌∙◌, ap, rules}
use Rattle.rg_delegate.specs.Authority.{Known}
use Rattle.rg_delegate.specs.Found.{delegations}
use Rattle.rg_delegate.proofs.listing.seen_in_part.Goals as goal

pub is_seen-requires-clause-delegations : goal.is_seen-requires-clause-delegations
is_seen-requires-clause-delegations c =
    let same : c.args.actor.now ≡ c.loop-policy.actor = search rules in
    c.as_ref-delegated.ensures.value ∙ c.in_ok-found.ensures.answer ∙ ap (λ (k : Known). delegations c.args.state.now c.args.service.now k) same
