use Rattle.std.proofs.Common.{◌≡◌, drop}
use Rattle.std.specs.List.{find}
use Rattle.std.specs.Str.{bytes_eq, chars}
use Rattle.rg_base.proofs.named.find_named.Given as goal

-- what is found is found in the rest
abbrev pub invariant-loop-thing : goal.invariant-loop-thing
invariant-loop-thing g l = find (λ x. bytes_eq (g.T.Named.named x) (chars l.name)) (drop l.thing-index l.things)
    ≡ find (λ x. bytes_eq (g.T.Named.named x) (chars l.name)) l.things
