use Rattle.std.proofs.Common.{◌∙◌, ◌++◌, codes}
use Rattle.rg_check.proofs.words.foreign_words.Goals as goal

pub returns : goal.returns
returns c = c.in_ok-format.ensures.ok ∙ (λ i. c.word-word.ensures i ++ (codes " in a script of " ++ c.word-script.ensures i))
