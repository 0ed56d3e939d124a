-- The step of the administration: what an ask changes, and the reply.
use Rattle.std.specs.Prelude.{ℕ, ◌+◌, ◌^◌, min, Bool, false, List, Option, Some, None}
use Rattle.std.specs.Option.{option_or}
use Rattle.std.specs.Str.{bytes_eq}
use Rattle.rg_base.specs.Listed.{listed}
use Rattle.rg_policy.specs.declared.policy.Policy.{Policy}
use Rattle.rg_cmd.specs.Lookups.{policy_at}
use Rattle.rg_cmd.specs.declared.ask.AdminCommand.{AdminCommand}
use Rattle.rg_cmd.specs.declared.ask.AdminCommand.TheVariants.{CreatePolicy, DeleteService, UpdatePolicy, GetPolicy, ListPolicies, Download as Downloads}
use Rattle.rg_cmd.specs.declared.ask.AdminReply.{AdminReply}
use Rattle.rg_cmd.specs.declared.ask.AdminReply.TheVariants.{Done, Kept, Found, Listed, Downloaded, Refused}
use Rattle.rg_cmd.specs.declared.ask.Ask.{Ask}
use Rattle.rg_cmd.specs.declared.download.Download.{Download}
use Rattle.rg_cmd.specs.declared.rule.Rule.{Rule}
use Rattle.rg_cmd.specs.declared.rule.Rule.TheVariants.{E1, E2}
use Rattle.rg_cmd.specs.declared.state.State.{State}
use Rattle.rg_delegate.specs.Listing.{policies_for}
use Rattle.rg_delegate.specs.Rules.{authority_fault}
use Rattle.rg_validate.specs.Rules.{first_fault}
use Rattle.rg_admin_laws.specs.Changes.{after_command, created_form, updated_form}
use Rattle.rg_admin_laws.specs.Downloads.{download}
use Rattle.rg_admin_laws.specs.Logs.{Administration, logs_after}

-- ---- the administration

-- every command raises the count of entries, at most to 2^62
abbrev pub counted : State → State
counted s = record s { count = min (s.count + 1) (2 ^ 62) }

-- after a command that passes every rule
abbrev pub accepted : Administration → AdminCommand → Administration
accepted a command = record { state = counted (after_command a.state command); logs = logs_after a.state command a.logs }

-- after one that doesn't
abbrev pub refused : Administration → Administration
refused a = record a { state = counted a.state }

-- ---- the reply

-- the policy that was created or updated, with the version that it has now
abbrev pub kept : Policy → AdminReply
kept p = Kept p.id p.version

-- without a policy or service the rules refuse the command, so there always is one
abbrev pub found : Option Policy → AdminReply
found None = Refused E2
found (Some p) = Found p

abbrev pub downloaded : Option Download → AdminReply
downloaded None = Refused E1
downloaded (Some d) = Downloaded d

-- the reply to an accepted command, in the administration before it
abbrev pub reply_to : Administration → List ℕ → AdminCommand → AdminReply
reply_to a actor (CreatePolicy p) = kept (created_form a.state p)
reply_to a actor (UpdatePolicy p) = kept (updated_form a.state p)
reply_to a actor (GetPolicy id) = found (policy_at a.state id.0)
reply_to a actor (ListPolicies service) = Listed (listed (policies_for a.state actor service))
reply_to a actor (Downloads service policies_from tags_from roles_from) = downloaded (download a service (record { policies = policies_from; tags = tags_from; roles = roles_from }))
reply_to a actor command = Done

-- ---- the step

-- the first rule that the ask breaks: those of authority come last
abbrev pub fault : State → Ask → Option Rule
fault s ask = option_or (first_fault s ask) (authority_fault s ask)

abbrev pub step_by : Option Rule → Administration → Ask → Administration × AdminReply
step_by None a ask = (accepted a ask.command, reply_to a ask.actor ask.command)
step_by (Some rule) a ask = (refused a, Refused rule)

-- the administration after an ask, and the reply
abbrev pub step : Administration → Ask → Administration × AdminReply
step a ask = step_by (fault a.state ask) a ask

-- the command deletes the service
abbrev pub deletes : AdminCommand → List ℕ → Bool
deletes (DeleteService name) service = bytes_eq name service
deletes command service = false
