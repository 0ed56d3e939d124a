use Rattle.std.proofs.Common.{◌≡◌, drop}
use Rattle.std.specs.List.{list_any}
use Rattle.rg_same_resources.specs.Twins.{same_resource}
use Rattle.rg_same_resources.proofs.twins.some_same_resource.Given as goal

-- the rest decides
abbrev pub invariant-loop-other : goal.invariant-loop-other
invariant-loop-other l = list_any (same_resource l.resource) (drop l.other-index l.others) ≡ list_any (same_resource l.resource) l.others
