use Rattle.rg_policy_sets.proofs.Marking.{agreeing}
use Rattle.rg_policy_sets.proofs.marks.lying_policies_agree.Goals as goal

pub returns : goal.returns
returns c = λ def p elements user place lawful lies.
    agreeing c.stands_is_decided.ensures c.prefix_begins_text.ensures.pattern c.prefix_begins_text.ensures.twin def lawful p elements user lies place
