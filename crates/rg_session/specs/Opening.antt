-- The work of an engine over what is seen, where something is.
use Rattle.std.specs.Prelude.{◌≡◌, Option, Some}
use Rattle.rg_base.specs.Counts.{Counts}
use Rattle.rg_facts.specs.declared.facts.Facts.{Facts}
use Rattle.rg_publish.specs.Bounds.{HasCompiled, WorkWithin, pairs_in, policies_in}

-- each policy and each tag policy is compiled exactly once
abbrev pub IsCompiled : Option Facts → Counts → Counts → Type 0
IsCompiled seen old new = (f : Facts) → seen ≡ Some f → HasCompiled (policies_in f) old new

-- compiles and edits stay within those of the facts
abbrev pub IsBuiltWithin : Option Facts → Counts → Counts → Type 0
IsBuiltWithin seen old new = (f : Facts) → seen ≡ Some f → WorkWithin (policies_in f) (pairs_in f) old new
