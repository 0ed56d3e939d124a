-- Which policy a row is for, and which command does what is asked.
use Rattle.std.specs.Prelude.{◌&&◌, ◌==◌, Bool, List, [], ◌∷◌, length, Option, Some, None}
use Rattle.std.specs.List.{find}
use Rattle.std.specs.Ordering.{int_eq}
use Rattle.std.specs.Str.{bytes_eq}
use Rattle.rg_policy.specs.Kinds.{access_policy, normal}
use Rattle.rg_policy.specs.Maps.{maps_of}
use Rattle.rg_policy.specs.declared.policy.Policy.{Policy}
use Rattle.rg_policy.specs.declared.policy.ResourceMap.{ResourceMap}
use Rattle.rg_cmd.specs.declared.ask.AdminCommand.{AdminCommand}
use Rattle.rg_cmd.specs.declared.ask.AdminCommand.TheVariants.{CreatePolicy, UpdatePolicy}
use Rattle.rg_cmd.specs.declared.ask.Ask.{Ask}
use Rattle.rg_cmd.specs.declared.state.State.{State}
use Rattle.rg_same_resources.specs.Twins.{same_maps}
use Rattle.rg_grant.specs.Forms.{granted_form, new_policy, revoked_form}
use Rattle.rg_grant.specs.declared.ask.GrantAsk.{GrantAsk}
use Rattle.rg_grant.specs.declared.ask.GrantAsk.TheVariants.{Plain, Grant, Revoke}
use Rattle.rg_grant.specs.declared.row.GrantRow.{GrantRow}

-- ---- the policy of a row

-- the row's one map
abbrev pub map_of : GrantRow → List ResourceMap
map_of g = record { levels = g.resources } ∷ []

-- the policy is of the row's service and zone, of type 0 and priority 0, and has no schedule
abbrev pub is_of_kind : GrantRow → Policy → Bool
is_of_kind g p = (bytes_eq p.service g.service && bytes_eq p.zone g.zone)
    && (int_eq p.policy_type access_policy && (int_eq p.priority normal && length p.schedules.items == 0))

-- it is enabled and of this kind, and its maps are the same as the row's one map, as V13 compares them
abbrev pub is_for : GrantRow → Policy → Bool
is_for g p = p.enabled && (is_of_kind g p && same_maps (map_of g) (maps_of p))

-- the policy of the row; by V13 there is at most one
abbrev pub policy_for : State → GrantRow → Option Policy
policy_for s g = find (is_for g) s.policies.items

-- ---- the command

abbrev pub grant_of : State → GrantRow → Option Policy → AdminCommand
grant_of s g (Some p) = UpdatePolicy (granted_form g p)
grant_of s g None = CreatePolicy (new_policy s.next_id g)

-- no policy has the id 0, so the rules refuse the update of one
abbrev pub revoke_of : State → GrantRow → Option Policy → AdminCommand
revoke_of s g (Some p) = UpdatePolicy (revoked_form g p)
revoke_of s g None = UpdatePolicy (new_policy s.next_id g)

-- what is asked of the administration
unfoldable pub planned : State → GrantAsk → Ask
planned s (Plain ask) = ask
planned s (Grant actor g) = record { actor = actor; command = grant_of s g (policy_for s g) }
planned s (Revoke actor g) = record { actor = actor; command = revoke_of s g (policy_for s g) }
