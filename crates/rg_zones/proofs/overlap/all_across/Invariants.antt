use Rattle.std.proofs.Common.{◌≡◌, ◌-◌, None, length}
use Rattle.std.specs.List.{flat_map, fold, range_with_len}
use Rattle.rg_zones.specs.Candidates.{across, meet_at}
use Rattle.rg_zone_rules.specs.Overlap.{pairs_from, place_pairs}
use Rattle.rg_zones.proofs.overlap.all_across.Given as goal

abbrev pub invariant-loop-first : goal.invariant-loop-first
invariant-loop-first l =
    fold (across (meet_at l.paths l.zones) l.zones) l.best (flat_map (pairs_from (length l.zones)) (range_with_len l.first (length l.zones - l.first)))
    ≡ fold (across (meet_at l.paths l.zones) l.zones) None (place_pairs (length l.zones))
