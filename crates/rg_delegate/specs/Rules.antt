-- The rules of authority, and the first that a command breaks.
use Rattle.std.specs.Prelude.{ℕ, ℤ, not, Bool, true, List, [], ◌∷◌, Option, option_map}
use Rattle.std.specs.List.{find}
use Rattle.std.specs.Option.{option_map_or}
use Rattle.rg_cmd.specs.declared.ask.AdminCommand.{AdminCommand}
use Rattle.rg_cmd.specs.declared.ask.AdminCommand.TheVariants.{CreatePolicy, UpdatePolicy, DeletePolicy, GetPolicy, ListPolicies, Download}
use Rattle.rg_cmd.specs.declared.ask.Ask.{Ask}
use Rattle.rg_cmd.specs.declared.rule.Rule.{Rule}
use Rattle.rg_cmd.specs.declared.rule.Rule.TheVariants.{A1, A2, A3, A4, A5}
use Rattle.rg_cmd.specs.declared.state.State.{State}
use Rattle.rg_delegate.specs.Authority.{is_admin, may, may_see}
use Rattle.rg_cmd.specs.Lookups.{policy_at}

-- a rule, and whether it holds
abbrev pub Tested : Type 0
Tested = Rule × Bool

-- the first rule that fails
abbrev pub first_failing : List Tested → Option Rule
first_failing rules = option_map (λ (r : Tested). r.0) (find (λ (r : Tested). not r.1) rules)

-- the actor may administer, or see, the policy that has this id; of one that isn't there no rule of authority speaks
abbrev pub may_by_id : State → List ℕ → ℤ → Bool
may_by_id s actor id = option_map_or (may s actor) (policy_at s id) true

abbrev pub may_see_by_id : State → List ℕ → ℤ → Bool
may_see_by_id s actor id = option_map_or (may_see s actor) (policy_at s id) true

-- A1: the actor is among the administrators. A2: the actor may administer the new policy. A3: the old form of the policy. A4: its new form. A5: the actor may see the policy
abbrev pub authority_rules : State → List ℕ → AdminCommand → List Tested
authority_rules s actor (CreatePolicy policy) = (A2, may s actor policy) ∷ []
authority_rules s actor (UpdatePolicy policy) = (A3, may_by_id s actor policy.id.0) ∷ (A4, may s actor policy) ∷ []
authority_rules s actor (DeletePolicy id) = (A3, may_by_id s actor id.0) ∷ []
authority_rules s actor (GetPolicy id) = (A5, may_see_by_id s actor id.0) ∷ []
authority_rules s actor (ListPolicies service) = []
authority_rules s actor (Download service policies tags roles) = []
authority_rules s actor _ = (A1, is_admin s actor) ∷ []

-- the first rule of authority that the command breaks
abbrev pub authority_fault : State → Ask → Option Rule
authority_fault s ask = first_failing (authority_rules s ask.actor ask.command)
