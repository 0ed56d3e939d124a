use Rattle.std.proofs.Common.{sym, ◌∙◌}
use Rattle.rg_facts.specs.Flow.{outcome_from, outcome_of}
use Rattle.rg_facts.specs.declared.choice.Kind.TheVariants.{Mask, Filter}
use Rattle.rg_facts.proofs.Cells.{decider_is}
use Rattle.rg_facts.proofs.Idle.{by_asking}
use Rattle.rg_facts.proofs.Reordered.{same_choice, same_decider}
use Rattle.rg_facts.proofs.laws.order_plays_no_part.Goals as goal

pub returns-clause-candidates : goal.returns-clause-candidates
unfolding outcome_of
returns-clause-candidates c = λ fallback s these those told same i. outcome_from fallback
    ((decider_is s these ∙ same_decider s these those told same ∙ sym (decider_is s those)) i)
    (same_choice s Filter these those told same i)
    (same_choice s Mask these those told same i)

pub returns-clause-best : goal.returns-clause-best
returns-clause-best c = by_asking
