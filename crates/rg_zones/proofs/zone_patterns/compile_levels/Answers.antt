use Rattle.std.proofs.Common.{◌++◌, ◌<◌, ◌+◌, List, [], ◌∷◌, drop, map, length, sym, ap, ◌∙◌, append_assoc, arith}
use Rattle.std.proofs.lemmas.Bool.{and_parts}
use Rattle.std.specs.List.{list_all}
use Rattle.rg_zone_rules.specs.declared.row.ZoneLevel.{ZoneLevel}
use Rattle.rg_zone_rules.specs.Overlap.{LevelPatterns, level_patterns}
use Rattle.rg_zone_rules.specs.Rules.{level_values_fit}
use Rattle.rg_zones.proofs.Joining.{next_item}
use Rattle.rg_zones.proofs.zone_patterns.compile_levels.Goals as goal

pub loop-one-preserved : goal.loop-one-preserved
loop-one-preserved c =
    let def = c.args.def.now in
    let xs = c.args.written.now in
    let i = c.loop-one.one-index in
    let x = c.one-item.result in
    let old = c.loop-one.levels.items in
    let within : i < length xs = omega arith in
    let step = next_item xs i x within c.one-item.is in
    record {
      so_far =
          ap (λ (m : List LevelPatterns). m ++ map (level_patterns def) (drop (i + 1) xs)) c.in_ok-levels.ensures.exact
          ∙ append_assoc old (level_patterns def x ∷ []) (map (level_patterns def) (drop (i + 1) xs))
          ∙ ap (λ (ys : List ZoneLevel). old ++ map (level_patterns def) ys) (sym step)
          ∙ c.loop-one.invariant.so_far;
      scalars = c.in_ok-levels.ensures.scalars ∙ c.loop-one.invariant.scalars;
      fit = (and_parts (level_values_fit x) (list_all level_values_fit (drop (i + 1) xs)) (ap (list_all level_values_fit) (sym step) ∙ c.loop-one.invariant.fit)).1;
    }
