-- For proofs alone: what a fate makes of an item.
use Rattle.std.specs.Prelude.{Option, Some, None}
use Rattle.rg_delta.specs.declared.fates.Fate.{Fate}
use Rattle.rg_delta.specs.declared.fates.Fate.TheVariants.{Stays, Goes, Becomes}

abbrev pub fated : {X : Type 0} → Fate X → X → Option X
fated Stays y = Some y
fated Goes y = None
fated (Becomes x) y = Some x
