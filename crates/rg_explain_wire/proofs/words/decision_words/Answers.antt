use Rattle.std.proofs.Common.{◌++◌, ap, ◌∙◌}
use Rattle.std.specs.Prelude.{codes}
use Rattle.rg_explain_wire.specs.Words.{decision_words, given_words}
use Rattle.rg_explain_wire.proofs.words.decision_words.Goals as goal

pub returns : goal.returns
unfolding decision_words
returns c =
    let decided = c.as_str-decided.ensures.value ∙ c.in_ok-decided.ensures in
    let filter = c.as_str-filter.ensures.value ∙ c.in_ok-filter.ensures ∙ ap (given_words (codes "Rows are filtered")) c.as_ref.ensures.value in
    let mask = c.as_str-mask.ensures.value ∙ c.in_ok-mask.ensures ∙ ap (given_words (codes "Values are masked")) c.as_ref-2.ensures.value in
    c.in_ok-format.ensures.ok ∙ (λ i. decided i ++ (filter i ++ mask i))
