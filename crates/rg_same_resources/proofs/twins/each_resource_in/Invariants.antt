use Rattle.std.proofs.Common.{◌≡◌, length}
use Rattle.rg_same_resources.specs.Twins.{each_resource_in}
use Rattle.rg_same_resources.proofs.twins.each_resource_in.Given as goal

-- the rest decides
abbrev pub invariant-resources : goal.invariant-resources
invariant-resources l = each_resource_in l.rest l.others ≡ each_resource_in l.fn.resources l.others

abbrev pub decreases-resources : goal.decreases-resources
decreases-resources l = length l.rest
