use Rattle.std.proofs.Common.{◌≡◌, take, map}
use Rattle.rg_evalr.specs.Items.{item_matches}
use Rattle.rg_standing.proofs.question.Question.flags.Given as goal

abbrev pub invariant-loop-item : goal.invariant-loop-item
invariant-loop-item l = l.flags.items ≡ map (item_matches l.self.frame l.self.side l.self.context) (take l.item-index l.items)
