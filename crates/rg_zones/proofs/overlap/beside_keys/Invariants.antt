use Rattle.std.proofs.Common.{◌≡◌, drop}
use Rattle.std.specs.List.{fold}
use Rattle.rg_zones.specs.Candidates.{beside, found_under, meet_at}
use Rattle.rg_zones.proofs.overlap.beside_keys.Given as goal

abbrev pub invariant-loop-key : goal.invariant-loop-key
invariant-loop-key l =
    fold (beside (meet_at l.paths l.zones) l.place) l.best (found_under l.trie (drop l.key-index l.keys))
    ≡ fold (beside (meet_at l.paths l.zones) l.place) l.fn.best (found_under l.trie l.keys)
