use Rattle.std.proofs.Common.{◌≡◌, ◌⊎◌, false, [], ◌∷◌, refl, sym, ◌∙◌, subst}
use Rattle.rg_follow.specs.Asking.{WasAsked}
use Rattle.rg_follow.specs.Rounds.{fits}
use Rattle.rg_follow.specs.declared.fault.FollowFault.TheVariants.{Misfit, NoMemory}
use Rattle.rg_follow.proofs.Moving.{has_moved, settled_after, strayed_after, strays, unasked}
use Rattle.rg_follow.proofs.rounds.renew.Goals as goal

pub returns-then-is_unchanged-clause-settled : goal.returns-then-is_unchanged-clause-settled
returns-then-is_unchanged-clause-settled g c =
    let asked = subst (λ f. WasAsked f c.in-Ok.download c.args.remote.now c.ask.new.remote) c.known_to.ensures c.in-Ok.ensures.asked in
    (c.in-Ok.download ∷ [], (c.ask.new.remote, asked, refl), (sym c.is_unchanged.ensures ∙ c.if-is_unchanged.true, refl))

pub returns-in-Err-take-clause-strayed : goal.returns-in-Err-take-clause-strayed
returns-in-Err-take-clause-strayed g c =
    let asked = subst (λ f. WasAsked f c.in-Ok.download c.args.remote.now c.ask.new.remote) c.known_to.ensures c.in-Ok.ensures.asked in
    strays _ c.args.had.now c.args.had.now [] c.in-Ok.download
    c.in-Err-take.fault c.args.remote.now c.ask.new.remote (c.ask.new.remote, asked, refl) refl (sym c.is_unchanged.ensures ∙ c.if-is_unchanged.false)
    (subst (λ f. ((c.in-Err-take.fault ≡ Misfit) × (fits f c.in-Ok.download ≡ false)) ⊎ (c.in-Err-take.fault ≡ NoMemory)) c.in-Ok-facts.ensures.copied c.in-Err-take.ensures.fault)

pub returns-in-Err-clause-strayed : goal.returns-in-Err-clause-strayed
returns-in-Err-clause-strayed g c =
    unasked 9 c.args.had.now c.args.had.now [] _ c.in-Err.fault c.args.remote.now c.args.remote.now c.ask.new.remote refl refl c.known_to.ensures c.in-Err.ensures.unasked

pub returns-in-Ok-settle_within-clause-settled : goal.returns-in-Ok-settle_within-clause-settled
returns-in-Ok-settle_within-clause-settled g c =
    settled_after c.args.had.now c.in-Ok-take.facts c.in-Ok-settle_within.after c.in-Ok.download
    c.args.remote.now c.ask.new.remote c.settle_within.new.remote
    (has_moved c.args.had.now c.in-Ok-facts.facts c.in-Ok-take.facts c.in-Ok.download _ c.args.remote.now c.ask.new.remote
    c.known_to.ensures c.in-Ok.ensures.asked (sym c.is_unchanged.ensures ∙ c.if-is_unchanged.false) c.in-Ok-facts.ensures.copied c.in-Ok-take.ensures.taken)
    c.in-Ok-settle_within.ensures.settled

pub returns-in-Err-settle_within-clause-strayed : goal.returns-in-Err-settle_within-clause-strayed
returns-in-Err-settle_within-clause-strayed g c =
    strayed_after 8 9 c.args.had.now c.in-Ok-take.facts c.in-Ok.download c.in-Err-settle_within.fault
    c.args.remote.now c.ask.new.remote c.settle_within.new.remote refl
    (has_moved c.args.had.now c.in-Ok-facts.facts c.in-Ok-take.facts c.in-Ok.download _ c.args.remote.now c.ask.new.remote
    c.known_to.ensures c.in-Ok.ensures.asked (sym c.is_unchanged.ensures ∙ c.if-is_unchanged.false) c.in-Ok-facts.ensures.copied c.in-Ok-take.ensures.taken)
    c.in-Err-settle_within.ensures.strayed
