use Rattle.std.proofs.Common.{◌≡◌, ◌-◌, ℕ, length, map}
use Rattle.std.specs.List.{fold, range_with_len}
use Rattle.rg_zones.specs.Candidates.{across, meet_at}
use Rattle.rg_zone_rules.specs.Overlap.{pairs_from}
use Rattle.rg_zones.proofs.overlap.across_from.Given as goal

abbrev pub invariant-loop-second : goal.invariant-loop-second
invariant-loop-second l =
    fold (across (meet_at l.paths l.zones) l.zones) l.best (map (λ (j : ℕ). (l.first, j)) (range_with_len l.second (length l.zones - l.second)))
    ≡ fold (across (meet_at l.paths l.zones) l.zones) l.fn.best (pairs_from (length l.zones) l.first)
