-- For proofs: what an explainer asks and keeps.
use Rattle.std.specs.Prelude.{ℕ, Bool, List, [], Option, Some, None}
use Rattle.rg_defs.specs.declared.service_def.ServiceDef.{ServiceDef}
use Rattle.rg_policy.specs.declared.policy.Policy.{Policy}
use Rattle.rg_policy.specs.declared.policy.ResourceMap.{ResourceMap}
use Rattle.rg_policy.specs.declared.request.AccessRequest.{AccessRequest}
use Rattle.rg_policy.specs.declared.request.Element.{Element}
use Rattle.rg_policy.specs.declared.tags.Tag.{Tag}
use Rattle.rg_resmatch.specs.declared.reach.Reach.TheVariants.{Down}
use Rattle.rg_resmatch.specs.Tests.{lies}
use Rattle.rg_zone_rules.specs.declared.row.ZoneRow.{ZoneRow}
use Rattle.rg_evalr.specs.Frames.{requested_access}
use Rattle.rg_evalr.specs.declared.frame.Side.TheVariants.{Resource, Tag as Tagged}
use Rattle.rg_facts.specs.Candidates.{Candidate, Setting, candidate, frame_of}
use Rattle.rg_facts.specs.declared.facts.Facts.{Facts}
use Rattle.rg_standing.specs.Asking.{Asked}

-- the resource policies are asked about the request
abbrev pub resource_asked : Facts → AccessRequest → Asked
resource_asked facts q = record { frame = frame_of facts; side = Resource; context = record { request = q; roles = facts.roles.items; tag = None } }

-- the tag policies, for a tag
abbrev pub tag_asked : Facts → AccessRequest → Tag → Asked
tag_asked facts q tag = record { frame = frame_of facts; side = Tagged; context = record { request = q; roles = facts.roles.items; tag = Some tag } }

-- the access that they are asked for
abbrev pub access_asked : Facts → AccessRequest → List ℕ
access_asked facts q = requested_access (frame_of facts) Tagged q.access

-- the request in a zone
abbrev pub setting_with : Facts → AccessRequest → Option ZoneRow → Setting
setting_with facts q zone = record { request = q; roles = facts.roles.items; zone = zone }

abbrev pub setting_in : Asked → Option ZoneRow → Setting
setting_in a zone = record { request = a.context.request; roles = a.context.roles; zone = zone }

-- a policy that is asked
abbrev pub candidate_in : Asked → Policy → Candidate
candidate_in a p = candidate a.frame a.side a.context.tag p

-- a map of a zone, as one of a policy, reaches down to what is asked about, whoever asks
abbrev pub reaches : ServiceDef → List Element → ResourceMap → Bool
reaches def elements m = lies def m.levels.items Down elements []
