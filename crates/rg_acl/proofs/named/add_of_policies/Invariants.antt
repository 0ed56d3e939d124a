use Rattle.std.proofs.Common.{◌≡◌, ◌++◌, take}
use Rattle.rg_acl.specs.Named.{named_by_policies}
use Rattle.rg_acl.proofs.named.add_of_policies.Given as goal

abbrev pub invariant-loop-policy : goal.invariant-loop-policy
invariant-loop-policy l = l.found.items ≡ l.initial.found.items ++ named_by_policies l.listing (take l.policy-index l.policies)
