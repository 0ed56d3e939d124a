use Rattle.std.proofs.Common.{◌≡◌, length}
use Rattle.std.specs.List.{list_any}
use Rattle.rg_trie.specs.Walked.{entries_under}
use Rattle.rg_delegate.specs.Filing.{covers_at}
use Rattle.rg_delegate.proofs.filing.some_found_covers.Given as goal

abbrev pub invariant-loop-found : goal.invariant-loop-found
invariant-loop-found l = list_any (covers_at l.fold l.patterns l.other) l.walk ≡ list_any (covers_at l.fold l.patterns l.other) (entries_under l.prefix l.filed)

abbrev pub decreases-loop-found : goal.decreases-loop-found
decreases-loop-found l = length l.walk
