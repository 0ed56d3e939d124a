-- What the answer of a log says.
use Rattle.std.specs.VecDeque.Iter.{deque_iter_rest}
use Rattle.rg_delta.specs.Logs.{Known}
use Rattle.rg_delta.specs.Logs.Known.{Nothing, These, Unknown}
use Rattle.rg_delta.specs.declared.log.Since.{Since}
use Rattle.rg_delta.specs.declared.log.Since.TheVariants.{Unchanged, Changes, Whole}

abbrev pub known_of : {C : Type 0} → Since C → Known C
known_of Unchanged = Nothing
known_of (Changes changes) = These (deque_iter_rest changes)
known_of Whole = Unknown
