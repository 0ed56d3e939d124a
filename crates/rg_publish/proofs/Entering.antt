-- What a pass has seen after an entry goes on from what it had.
use Rattle.std.proofs.Common.{Bool, true, false, List, subst, sym}
use mathlib.Core.List.{IsPrefix}
use Rattle.rg_publish.specs.declared.history.Publication.{Publication}
use Rattle.rg_publish.specs.Passes.{HasEntered, Seeing}
use Rattle.rg_publish.proofs.Lists.{prefix_self}

pub entered_begins : (before : Seeing) (entered : Bool) (after : Seeing) → HasEntered before entered after → IsPrefix before.list after.list
entered_begins before true after h = h.0
entered_begins before false after h = subst (λ (list : List Publication). IsPrefix before.list list) (sym h.0) (prefix_self before.list)
