use Rattle.std.proofs.Common.{◌≡◌, length}
use Rattle.std.specs.Str.{bytes_eq}
use Rattle.rg_base.specs.Texts.{all_distinct}
use Rattle.rg_base.proofs.named.names_distinct.Given as goal

-- the rest decides
abbrev pub invariant-loop-thing : goal.invariant-loop-thing
invariant-loop-thing g l = all_distinct (λ x y. bytes_eq (g.T.Named.named y) (g.T.Named.named x)) l.rest
    ≡ all_distinct (λ x y. bytes_eq (g.T.Named.named y) (g.T.Named.named x)) l.things

abbrev pub decreases-loop-thing : goal.decreases-loop-thing
decreases-loop-thing g l = length l.rest
