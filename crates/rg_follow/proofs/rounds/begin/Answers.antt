use Rattle.std.proofs.Common.{inl, sym, ◌∙◌}
use Rattle.rg_follow.proofs.Moving.{settled_anew, strayed_anew}
use Rattle.rg_follow.proofs.rounds.begin.Goals as goal

pub returns-in-Some-clause-settled : goal.returns-in-Some-clause-settled
returns-in-Some-clause-settled g c =
    settled_anew c.args.service c.in-Ok.download c.in-Some.facts c.settle.result
    c.args.remote.now c.ask.new.remote c.settle.new.remote c.in-Ok.ensures.asked (sym c.begun.ensures ∙ c.in-Some.is) c.settle.ensures.settled

pub returns-in-Some-clause-strayed : goal.returns-in-Some-clause-strayed
returns-in-Some-clause-strayed g c =
    strayed_anew _ c.args.service c.in-Ok.download c.in-Some.facts c.settle.result _ _ _
    c.in-Ok.ensures.asked (sym c.begun.ensures ∙ c.in-Some.is) c.settle.ensures.strayed

pub returns-in-Err-clause-strayed : goal.returns-in-Err-clause-strayed
returns-in-Err-clause-strayed g c = inl c.in-Err.ensures.unasked
