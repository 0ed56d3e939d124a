-- What a matcher is seen as: what it was compiled from.
use Rattle.std.specs.Prelude.{List}
use Rattle.rg_defs.specs.declared.service_def.ServiceDef.{ServiceDef}
use Rattle.rg_policy.specs.declared.policy.ResourceMap.{ResourceMap}
use Rattle.rg_resmatch.specs.declared.reach.Reach.{Reach}

pub record Matching : Type 0 where
  pub def : ServiceDef
  pub maps : List ResourceMap
  pub reach : Reach
