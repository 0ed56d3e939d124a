use Rattle.std.proofs.Common.{◌≡◌, ◌++◌, ◌-◌, ◌∷◌, [], Some, None, length, ap, ◌∙◌, sym, arith, reverse}
use Rattle.rg_base.specs.Listed.{listed}
use Rattle.rg_defs.specs.PathTests.{climb}
use Rattle.rg_defs.proofs.Climbs.{climb_more, climb_ended}
use Rattle.rg_defs.proofs.level_paths.path_to.Goals as goal

pub climb-preserved : goal.climb-preserved
climb-preserved c =
    let levels = c.args.levels.now in
    let whole = climb levels (length levels) (Some c.args.place) in
    let was : c.climb.upwards.items ++ climb levels c.climb.counter (Some c.in-Some.here) ≡ whole =
    ap (λ at. c.climb.upwards.items ++ climb levels c.climb.counter at) (sym c.in-Some.is) ∙ c.climb.invariant in
    let more = climb_more levels c.climb.counter c.climb.upwards.items whole c.in-Some.here (omega arith) was in
    let pushed : c.push.new.self.items ≡ c.climb.upwards.items ++ c.in-Some.here ∷ [] =
    c.in_ok-push.ensures.items ∙ ap (λ here. c.climb.upwards.items ++ here ∷ []) c.in_ok-kept_place.ensures in
    ap (λ up. up ++ climb levels (c.climb.counter - 1) c.parent_of-at.result) pushed
    ∙ ap (λ at. (c.climb.upwards.items ++ c.in-Some.here ∷ []) ++ climb levels (c.climb.counter - 1) at) c.parent_of-at.ensures ∙ more

pub returns-in_default : goal.returns-in_default
returns-in_default c =
    let levels = c.args.levels.now in
    let was : c.climb.upwards.items ++ climb levels c.climb.counter None ≡ climb levels (length levels) (Some c.args.place) =
    ap (λ at. c.climb.upwards.items ++ climb levels c.climb.counter at) (sym c.in_default.is) ∙ c.climb.invariant in
    c.turned.ensures ∙ ap (λ up. listed (reverse up)) (climb_ended levels c.climb.counter c.climb.upwards.items _ was)
