use Rattle.std.proofs.Common.{◌≡◌, map, take}
use Rattle.rg_defs.specs.declared.service_def.AccessType.{AccessType}
use Rattle.rg_acl.proofs.reporting.names_of_types.Given as goal

abbrev pub invariant-loop-access : goal.invariant-loop-access
invariant-loop-access l = l.names.items ≡ map (λ (t : AccessType). t.name) (take l.access-index l.types)
