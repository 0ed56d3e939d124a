use Rattle.std.proofs.Common.{◌≡◌, ◌-◌, false, sym, ap, ◌∙◌, arith}
use Rattle.std.specs.List.{list_any}
use Rattle.std.specs.Str.{chars}
use Rattle.rg_defs.specs.PathTests.{climb, has_name}
use Rattle.rg_defs.proofs.Climbs.{failed_above}
use Rattle.rg_defs.proofs.ancestors.is_named_above.Goals as goal

pub climb-preserved : goal.climb-preserved
climb-preserved c =
    let levels = c.args.levels.now in
    let named = has_name levels (chars c.args.name.now) in
    let other : named c.in-Some.here ≡ false = grind (arith, c.if-has_name.false, c.has_name.ensures) in
    ap (λ at. list_any named (climb levels (c.climb.counter - 1) at)) c.parent_of-at.ensures
    ∙ failed_above named levels c.climb.counter c.in-Some.here (omega arith) other
    ∙ ap (λ at. list_any named (climb levels c.climb.counter at)) (sym c.in-Some.is)
    ∙ c.climb.invariant
