-- Which policies are asked, and for what. To be read first; then Flow, Choices, Texts and Sound. Best and Joining serve proofs.
use Rattle.std.specs.Prelude.{ℕ, ◌&&◌, Bool, List, [], ◌++◌, map, flat_map, Option, Some, None, option_and_then, if◌then◌else◌}
use Rattle.std.specs.List.{filter, slice_get}
use Rattle.std.specs.Str.{bytes_eq}
use Rattle.rg_base.specs.Texts.{is_among}
use Rattle.rg_policy.specs.declared.policy.Policy.{Policy}
use Rattle.rg_policy.specs.declared.request.AccessRequest.{AccessRequest}
use Rattle.rg_policy.specs.declared.tags.Tag.{Tag}
use Rattle.rg_resmatch.specs.Tests.{lies}
use Rattle.rg_resmatch.specs.declared.reach.Reach.TheVariants.{Down}
use Rattle.rg_roles.specs.declared.row.RoleRow.{RoleRow}
use Rattle.rg_tags.specs.declared.row.TagRow.{TagRow}
use Rattle.rg_zone_rules.specs.Zones.{zone_of}
use Rattle.rg_zone_rules.specs.declared.row.ZoneRow.{ZoneRow}
use Rattle.rg_evalr.specs.Effects.{in_play}
use Rattle.rg_evalr.specs.Items.{Context}
use Rattle.rg_evalr.specs.Sources.{Source}
use Rattle.rg_evalr.specs.declared.frame.Frame.{Frame}
use Rattle.rg_evalr.specs.declared.frame.Side.{Side}
use Rattle.rg_evalr.specs.declared.frame.Side.TheVariants.{Resource, Tag as Tagged}
use Rattle.rg_facts.specs.declared.facts.Facts.{Facts}

-- what policies are read under
abbrev pub frame_of : Facts → Frame
frame_of facts = record { def = facts.def; tag_def = facts.tag_def; time_zones = facts.time_zones.items }

-- a request, with the roles that there are, in the zone of its resource
pub record Setting : Type 0 where
  pub request : AccessRequest
  pub roles : List RoleRow
  pub zone : Option ZoneRow

-- a policy that is asked, a tag policy for one tag
pub record Candidate : Type 0 where
  pub source : Source
  pub tag : Option Tag

abbrev pub context_of : Setting → Candidate → Context
context_of s c = record { request = s.request; roles = s.roles; tag = c.tag }

-- the zone, if it lists the tag service
abbrev pub zone_listing : List ℕ → Option ZoneRow → Option ZoneRow
zone_listing service None = None
zone_listing service (Some z) = if is_among service z.tag_services.items then Some z else None

-- the zone whose policies judge: for a tag policy only one that lists its service
abbrev pub judging_zone : Side → List ℕ → Option ZoneRow → Option ZoneRow
judging_zone Resource service zone = zone
judging_zone Tagged service zone = zone_listing service zone

-- no zone has the empty name
abbrev pub zone_name : Option ZoneRow → List ℕ
zone_name None = []
zone_name (Some z) = z.name

-- the policy is one of the judging zone, or has no zone where there is none
abbrev pub is_chosen : Setting → Candidate → Bool
is_chosen s c = bytes_eq c.source.policy.zone (zone_name (judging_zone c.source.side c.source.policy.service s.zone))

-- the policy is chosen by the zone, and in play
abbrev pub takes_part : Setting → Candidate → Bool
takes_part s c = is_chosen s c && in_play c.source.frame c.source.side (context_of s c) c.source.policy

-- ---- what is asked for a request

-- the zone in which the request's resource lies
abbrev pub zone_at : Facts → AccessRequest → Option ZoneRow
zone_at facts q = option_and_then (slice_get facts.zones.items) (zone_of facts.service facts.def facts.zones.items q.resource.elements.items)

abbrev pub setting_of : Facts → AccessRequest → Setting
setting_of facts q = record { request = q; roles = facts.roles.items; zone = zone_at facts q }

-- the row reaches down to the request's resource, whoever asks
abbrev pub row_lies : Facts → AccessRequest → TagRow → Bool
row_lies facts q row = lies facts.def row.resources.items Down q.resource.elements.items []

-- the tags, in order, of all these rows that do
abbrev pub tags_in : Facts → AccessRequest → List TagRow → List Tag
tags_in facts q rows = flat_map (λ (row : TagRow). row.tags.items) (filter (row_lies facts q) rows)

-- the tags of the request's resource
abbrev pub tags_of : Facts → AccessRequest → List Tag
tags_of facts q = tags_in facts q facts.tag_rows.items

abbrev pub candidate : Frame → Side → Option Tag → Policy → Candidate
candidate frame side tag p = record { source = record { frame = frame; policy = p; side = side }; tag = tag }

-- each tag policy is asked for the tag
abbrev pub tag_candidates : Facts → Tag → List Candidate
tag_candidates facts tag = map (candidate (frame_of facts) Tagged (Some tag)) facts.tag_policies.items

-- each resource policy is asked once
abbrev pub resource_candidates : Facts → List Candidate
resource_candidates facts = map (candidate (frame_of facts) Resource None) facts.policies.items

-- each tag policy is asked once for each tag, and each resource policy once
abbrev pub candidates : Facts → AccessRequest → List Candidate
candidates facts q = flat_map (tag_candidates facts) (tags_of facts q) ++ resource_candidates facts
