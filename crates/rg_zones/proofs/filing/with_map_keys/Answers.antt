use Rattle.std.proofs.Common.{◌++◌, ◌+◌, ◌<◌, List, ℕ, drop, length, sym, ap, ◌∙◌, append_assoc, arith}
use Rattle.std.specs.Str.{chars}
use Rattle.rg_base.proofs.Lists.{drop_next}
use Rattle.rg_zones.specs.Candidates.{level_keys, map_keys}
use Rattle.rg_zone_rules.specs.Overlap.{LevelPatterns}
use Rattle.rg_zones.proofs.filing.with_map_keys.Goals as goal

pub loop-level-preserved : goal.loop-level-preserved
loop-level-preserved c =
    let name = chars c.args.name.now in
    let xs = c.args.levels.now in
    let i = c.loop-level.level-index in
    let x = c.level-item.result in
    let old = c.loop-level.keys.items in
    let within : i < length xs = omega arith in
    ap (λ (ks : List (List ℕ)). ks ++ map_keys name (drop (i + 1) xs)) c.in_ok-keys.ensures
    ∙ append_assoc old (level_keys name x) (map_keys name (drop (i + 1) xs))
    ∙ ap (λ (ys : List LevelPatterns). old ++ map_keys name ys) (sym (drop_next i xs x within c.level-item.is))
    ∙ c.loop-level.invariant
