use Rattle.rg_index.proofs.Found.{is_candidate}
use Rattle.rg_index.proofs.laws.lying_forms_are_candidates.Goals as goal

pub returns : goal.returns
returns c = λ def forms elements form user there lies.
    is_candidate c.stands_is_decided.ensures c.prefix_begins_text.ensures.pattern c.prefix_begins_text.ensures.twin def elements user forms form there lies
