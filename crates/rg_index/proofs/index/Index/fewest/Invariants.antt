use Rattle.std.proofs.Common.{◌≡◌, None, option_map, take}
use Rattle.std.specs.List.{fold}
use Rattle.rg_index.specs.Candidates.{filed_number}
use Rattle.rg_index.proofs.Choosing.{step}
use Rattle.rg_index.proofs.index.Index.fewest.Given as goal

abbrev pub invariant-loop-element : goal.invariant-loop-element
invariant-loop-element l = option_map (λ p. (p.0.now, p.1)) l.best ≡ fold (step (filed_number l.self.def l.self.forms l.elements)) None (take l.element-index l.elements)
