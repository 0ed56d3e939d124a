use Rattle.std.proofs.Common.{◌≡◌, length}
use Rattle.std.specs.List.{fold}
use Rattle.rg_trie.specs.Walked.{entries_under}
use Rattle.rg_zones.specs.Candidates.{beside, meet_at}
use Rattle.rg_zones.proofs.overlap.beside_found.Given as goal

abbrev pub invariant-loop-found : goal.invariant-loop-found
invariant-loop-found l =
    fold (beside (meet_at l.paths l.zones) l.place) l.best l.walk ≡ fold (beside (meet_at l.paths l.zones) l.place) l.fn.best (entries_under l.key l.trie)

abbrev pub decreases-loop-found : goal.decreases-loop-found
decreases-loop-found l = length l.walk
