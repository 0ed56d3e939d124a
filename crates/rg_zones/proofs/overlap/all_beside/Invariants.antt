use Rattle.std.proofs.Common.{◌≡◌, ◌-◌, length}
use Rattle.std.specs.List.{fold, range_with_len}
use Rattle.rg_zones.specs.Candidates.{beside_all, meet_at}
use Rattle.rg_zones.proofs.overlap.all_beside.Given as goal

abbrev pub invariant-loop-place : goal.invariant-loop-place
invariant-loop-place l =
    fold (beside_all (meet_at l.paths l.zones) l.trie l.zones) l.best (range_with_len l.place (length l.zones - l.place))
    ≡ fold (beside_all (meet_at l.paths l.zones) l.trie l.zones) l.fn.best (range_with_len 0 (length l.zones))
