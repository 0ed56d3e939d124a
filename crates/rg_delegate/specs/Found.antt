-- How delegations are looked for: for the proofs of this crate alone.
use Rattle.std.specs.Prelude.{◌≡◌, ℕ, ◌&&◌, Bool, true, Contains, List, [], Option, map, option_map, if◌then◌else◌}
use Rattle.std.specs.List.{filter, flat_map, list_any}
use Rattle.std.specs.Ordering.{int_eq}
use Rattle.rg_cmd.specs.declared.state.State.{State}
use Rattle.rg_cmd.specs.Lookups.{def_of, is_of}
use Rattle.rg_defs.specs.declared.service_def.ServiceDef.{ServiceDef}
use Rattle.rg_items.specs.Accesses.{any_grants}
use Rattle.rg_policy.specs.declared.policy.AccessEntry.{AccessEntry}
use Rattle.rg_policy.specs.declared.policy.Item.{Item}
use Rattle.rg_policy.specs.declared.policy.Policy.{Policy}
use Rattle.rg_policy.specs.Kinds.{access_policy}
use Rattle.rg_resmatch.specs.Rules.{policy_levels_fit, policy_values_fit}
use Rattle.rg_delegate.specs.Accesses.{accesses}
use Rattle.rg_delegate.specs.Authority.{Known, delegates, may_delegate, named}
use Rattle.rg_delegate.specs.Compiled.{DefinedPolicy, under}
use Rattle.rg_delegate.specs.Covering.{policy_covers}

-- the entries grant an access of the policy
abbrev pub is_wanted : DefinedPolicy → List AccessEntry → Bool
is_wanted a entries = list_any (λ access. any_grants a.def access entries) (accesses a.def a.policy)

-- the item delegates an access of the policy to the actor
abbrev pub delegates_some : DefinedPolicy → Known → Item → Bool
delegates_some a k i = i.delegate && (is_wanted a i.accesses.items && named k (delegates k.name i))

-- the item delegates to the actor, whatever it grants
abbrev pub delegates_anything : Known → Item → Bool
delegates_anything k i = i.delegate && named k (delegates k.name i)

-- the policy is one of the service that is enabled, gives access, and has an allow item that delegates to the actor
abbrev pub is_candidate : List ℕ → Known → Policy → Bool
is_candidate service k q = q.enabled && (int_eq q.policy_type access_policy && (is_of service q && list_any (delegates_anything k) q.items.items))

abbrev pub candidates : List ℕ → Known → List Policy → List Policy
candidates service k policies = filter (is_candidate service k) policies

-- the items of a policy that covers it, by which it delegates an access of it
abbrev pub items_of : DefinedPolicy → Known → Policy → List Item
items_of a k q = if may_delegate a.policy q && policy_covers a.def q a.policy then filter (delegates_some a k) q.items.items else []

abbrev pub items_in : DefinedPolicy → Known → List Policy → List Item
items_in a k policies = flat_map (items_of a k) policies

-- one of the items grants the access
abbrev pub some_grants : ServiceDef → List Item → List ℕ → Bool
some_grants def items access = list_any (λ (i : Item). any_grants def access i.accesses.items) items

-- what policies of one service delegate: its definition, and those of its policies under it that delegate to an actor
pub record Delegated : Type 0 where
  pub def : ServiceDef
  pub policies : List DefinedPolicy

-- what these policies of the service delegate to the actor
abbrev pub delegations_of : List ℕ → Known → List Policy → ServiceDef → Delegated
delegations_of service k policies def = record { def = def; policies = map (under def) (candidates service k policies) }

-- what policies of the service delegate to the actor, where it has a definition
abbrev pub delegations : State → List ℕ → Known → Option Delegated
delegations s service k = option_map (delegations_of service k s.policies.items) (def_of s service)

-- those of the policies that are of the service pass V5 and V6 under this definition
abbrev pub FitUnder : ServiceDef → List ℕ → List Policy → Type 0
FitUnder def service policies = (q : Policy) → Contains policies q → is_of service q ≡ true → (policy_levels_fit def q ≡ true) × (policy_values_fit def q ≡ true)
