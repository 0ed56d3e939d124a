-- What authority needs of a valid state.
use Rattle.std.specs.Prelude.{◌≡◌, true, Contains, Some}
use Rattle.rg_cmd.specs.declared.ask.AdminCommand.{AdminCommand}
use Rattle.rg_cmd.specs.declared.ask.AdminCommand.TheVariants.{CreatePolicy, UpdatePolicy}
use Rattle.rg_cmd.specs.declared.state.State.{State}
use Rattle.rg_defs.specs.declared.service_def.ServiceDef.{ServiceDef}
use Rattle.rg_policy.specs.declared.policy.Policy.{Policy}
use Rattle.rg_resmatch.specs.Rules.{policy_levels_fit, policy_values_fit}
use Rattle.rg_cmd.specs.Lookups.{def_of}

-- the policy passes V5 and V6 under the definition of its service
abbrev pub Fits : State → Policy → Type 0
Fits s p = (def : ServiceDef) → def_of s p.service ≡ Some def → (policy_levels_fit def p ≡ true) × (policy_values_fit def p ≡ true)

-- each policy passes V5 and V6
abbrev pub IsReady : State → Type 0
IsReady s = (q : Policy) → Contains s.policies.items q → Fits s q

-- a policy that the command brings passes V5 and V6
abbrev pub FormFits : State → AdminCommand → Type 0
FormFits s (CreatePolicy policy) = Fits s policy
FormFits s (UpdatePolicy policy) = Fits s policy
FormFits s _ = Unit {0}
