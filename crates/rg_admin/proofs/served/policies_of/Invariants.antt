use Rattle.std.proofs.Common.{◌≡◌, take}
use Rattle.std.specs.List.{filter}
use Rattle.std.specs.Str.{chars}
use Rattle.rg_base.specs.Listed.{listed}
use Rattle.rg_cmd.specs.Lookups.{is_of}
use Rattle.rg_admin.proofs.served.policies_of.Given as goal

abbrev pub invariant-loop-policy : goal.invariant-loop-policy
invariant-loop-policy l = l.list ≡ listed (filter (is_of (chars l.service)) (take l.policy-index l.policies))
