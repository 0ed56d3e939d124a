-- The world of the administration.
use Rattle.std.specs.Prelude.{◌≡◌, ℕ, ◌==◌, ◌&&◌, Bool, true, false, List, [], Option, Some, None}
use Rattle.rg_base.specs.declared.numbers.Version.{Version}
use Rattle.rg_policy.specs.declared.request.AccessRequest.{AccessRequest}
use Rattle.rg_facts.specs.Flow.{eval}
use Rattle.rg_facts.specs.declared.facts.Facts.{Facts}
use Rattle.rg_facts.specs.declared.decision.Verdict.{Verdict}
use Rattle.rg_cmd.specs.declared.ask.AdminCommand.TheVariants.{Download as Downloads}
use Rattle.rg_cmd.specs.declared.ask.AdminReply.{AdminReply}
use Rattle.rg_cmd.specs.declared.ask.AdminReply.TheVariants.{Downloaded}
use Rattle.rg_cmd.specs.declared.ask.Ask.{Ask}
use Rattle.rg_cmd.specs.declared.download.Download.{Download}
use Rattle.rg_cmd.specs.declared.download.PolicyPart.{PolicyPart}
use Rattle.rg_cmd.specs.declared.download.PolicyPart.TheVariants.{Unchanged as PoliciesUnchanged}
use Rattle.rg_cmd.specs.declared.download.RolePart.{RolePart}
use Rattle.rg_cmd.specs.declared.download.RolePart.TheVariants.{Unchanged as RolesUnchanged}
use Rattle.rg_cmd.specs.declared.download.TagPart.{TagPart}
use Rattle.rg_cmd.specs.declared.download.TagPart.TheVariants.{Unchanged as TagsUnchanged}
use Rattle.rg_admin_laws.specs.Leading.{led}
use Rattle.rg_admin_laws.specs.Logs.{Administration}
use Rattle.rg_admin_laws.specs.Starts.{IsStart}
use Rattle.rg_admin_laws.specs.Steps.{step}
use Rattle.rg_admin_laws.specs.Views.{view}
use Rattle.rg_admin_laws.specs.World.{Event, Parts, World, opening, run}

-- the three versions of facts
pub record Versions : Type 0 where
  pub policies : Version
  pub tags : Version
  pub roles : Version

abbrev pub versions : Facts → Versions
versions facts = record { policies = facts.policy_version; tags = facts.tag_version; roles = facts.role_version }

abbrev pub same_versions : Versions → Versions → Bool
same_versions v w = v.policies.0 == w.policies.0 && (v.tags.0 == w.tags.0 && v.roles.0 == w.roles.0)

-- the download of a service from these versions, by the empty actor
abbrev pub download_ask : List ℕ → Versions → Ask
download_ask service from = record { actor = []; command = Downloads service (Some from.policies) (Some from.tags) (Some from.roles) }

abbrev pub document_of : AdminReply → Option Download
document_of (Downloaded d) = Some d
document_of reply = None

abbrev pub same_policies : PolicyPart → Bool
same_policies PoliciesUnchanged = true
same_policies part = false

abbrev pub same_tags : TagPart → Bool
same_tags TagsUnchanged = true
same_tags part = false

abbrev pub same_roles : RolePart → Bool
same_roles RolesUnchanged = true
same_roles part = false

-- each of its parts is unchanged
abbrev pub is_unchanged : Download → Bool
is_unchanged d = same_policies d.policies && (same_tags d.tags && same_roles d.roles)

-- the administration, with the plugin of this service
abbrev pub administration : List ℕ → Parts
administration plugin = record {
  State = Administration;
  Ask = Ask;
  Reply = AdminReply;
  Facts = Facts;
  Versions = Versions;
  Document = Download;
  Request = AccessRequest;
  Verdict = Verdict;
  transition = step;
  view = λ a. view a plugin;
  versions = versions;
  same_versions = same_versions;
  download_ask = download_ask plugin;
  document_of = document_of;
  seq_of = λ d. d.seq;
  is_unchanged = is_unchanged;
  led = led;
  eval = eval;
}

-- ---- the world

abbrev pub Events : Administration → Type 0
Events start = List (Event (administration start.state.plugin))

-- the world of this start's plugin, whose first publication has these facts, after the events
abbrev pub after_events : (start : Administration) → Facts → Events start → World (administration start.state.plugin)
after_events start facts events = run (administration start.state.plugin) events (opening (administration start.state.plugin) start facts)

-- an administration as it starts, with the facts that its plugin sees
pub record IsOpened (start : Administration) (facts : Facts) : Type 0 where
  pub starts : IsStart start
  pub viewed : view start start.state.plugin ≡ Some facts
