-- The records that JSON stands for, field by field.
use Rattle.std.specs.Prelude.{ℕ, pos, true, false, List}
use Rattle.std.specs.Str.{chars}
use Rattle.serde_json.specs.Data.{Data}
use Rattle.rg_base.specs.declared.numbers.Moment.{Moment}
use Rattle.rg_base.specs.declared.pair.Pair.{Pair}
use Rattle.rg_policy.specs.declared.policy.AccessEntry.{AccessEntry}
use Rattle.rg_policy.specs.declared.policy.PolicyCondition.{PolicyCondition}
use Rattle.rg_policy.specs.declared.policy.MaskInfo.{MaskInfo}
use Rattle.rg_policy.specs.declared.policy.ScheduleText.{ScheduleText}
use Rattle.rg_policy.specs.declared.policy.Item.{Item}
use Rattle.rg_policy.specs.declared.policy.PolicyResource.{PolicyResource}
use Rattle.rg_policy.specs.declared.policy.ResourceMap.{ResourceMap}
use Rattle.rg_policy.specs.declared.policy.Policy.{Policy}
use Rattle.rg_policy.specs.declared.policy.TimeZoneRow.{TimeZoneRow}
use Rattle.rg_policy.specs.declared.request.AccessRequest.{AccessRequest}
use Rattle.rg_policy.specs.declared.request.Element.{Element}
use Rattle.rg_policy.specs.declared.request.Resource.{Resource}
use Rattle.rg_defs.specs.declared.service_def.AccessType.{AccessType}
use Rattle.rg_defs.specs.declared.service_def.ConditionDef.{ConditionDef}
use Rattle.rg_defs.specs.declared.service_def.Level.{Level}
use Rattle.rg_defs.specs.declared.service_def.MaskType.{MaskType}
use Rattle.rg_defs.specs.declared.service_def.ServiceDef.{ServiceDef}
use Rattle.rg_facts.specs.declared.facts.Facts.{Facts}
use Rattle.rg_roles.specs.declared.row.RoleRow.{RoleRow}
use Rattle.rg_policy.specs.declared.tags.Tag.{Tag}
use Rattle.rg_tags.specs.declared.row.TagRow.{TagRow}
use Rattle.rg_zone_rules.specs.declared.row.Subjects.{Subjects}
use Rattle.rg_zone_rules.specs.declared.row.ZoneLevel.{ZoneLevel}
use Rattle.rg_zone_rules.specs.declared.row.ZoneRow.{ZoneRow}
use Rattle.rg_zone_rules.specs.declared.row.ZoneService.{ZoneService}
use Rattle.rg_wire.specs.declared.key.Key.{Key}
use Rattle.rg_wire.specs.declared.key.Key.TheVariants as key
use Rattle.rg_json.specs.Fields.{text_of, list_of, map_of}
use Rattle.rg_wire.specs.Fields.{within, text_at, bool_at, truth_word_at, i64_at, u64_at, list_at, map_at, is_filled, optional_at, names_at}

-- ---- policies

unfoldable pub entry_of : Data → AccessEntry
entry_of d = record { access = text_at key.Type d; allowed = bool_at true key.IsAllowed d }

unfoldable pub condition_of : Data → PolicyCondition
condition_of d = record { name = text_at key.Type d; values = list_at text_of key.Values d }

unfoldable pub mask_of : Data → MaskInfo
mask_of d = record { kind = text_at key.DataMaskType d; condition_expr = text_at key.ConditionExpr d; value_expr = text_at key.ValueExpr d }

-- recurring where the list of recurrences isn't empty
unfoldable pub schedule_of : Data → ScheduleText
schedule_of d = record {
  start_time = text_at key.StartTime d;
  end_time = text_at key.EndTime d;
  time_zone = text_at key.TimeZone d;
  recurring = is_filled key.Recurrences d;
}

unfoldable pub item_of : Data → Item
item_of d = record {
  accesses = list_at entry_of key.Accesses d;
  users = list_at text_of key.Users d;
  groups = list_at text_of key.Groups d;
  roles = list_at text_of key.Roles d;
  conditions = list_at condition_of key.Conditions d;
  delegate = bool_at false key.DelegateAdmin d;
  mask = optional_at mask_of key.DataMaskInfo d;
  filter = optional_at text_of key.FilterExpr (within key.RowFilterInfo d);
}

unfoldable pub policy_resource_of : List ℕ × Data → PolicyResource
policy_resource_of p = record {
  level = chars p.0;
  values = list_at text_of key.Values p.1;
  excludes = bool_at false key.IsExcludes p.1;
  recursive = bool_at false key.IsRecursive p.1;
}

-- a resource map
unfoldable pub resource_map_of : Data → ResourceMap
resource_map_of d = record { levels = map_of policy_resource_of d }

unfoldable pub policy_of : Data → Policy
policy_of d = record {
  id = record { 0 = i64_at (pos 0) key.Id d };
  guid = text_at key.Guid d;
  version = record { 0 = u64_at 1 key.Version d };
  service = text_at key.Service d;
  name = text_at key.Name d;
  policy_type = i64_at (pos 0) key.PolicyType d;
  priority = i64_at (pos 0) key.PolicyPriority d;
  resources = map_at policy_resource_of key.Resources d;
  additional = list_at resource_map_of key.AdditionalResources d;
  conditions = list_at condition_of key.Conditions d;
  items = list_at item_of key.PolicyItems d;
  deny_items = list_at item_of key.DenyPolicyItems d;
  allow_exceptions = list_at item_of key.AllowExceptions d;
  deny_exceptions = list_at item_of key.DenyExceptions d;
  mask_items = list_at item_of key.DataMaskPolicyItems d;
  filter_items = list_at item_of key.RowFilterPolicyItems d;
  schedules = list_at schedule_of key.ValiditySchedules d;
  zone = text_at key.ZoneName d;
  deny_all_else = bool_at false key.IsDenyAllElse d;
  enabled = bool_at true key.IsEnabled d;
  audited = bool_at true key.IsAuditEnabled d;
}

-- ---- requests

unfoldable pub pair_of : List ℕ × Data → Pair
pair_of p = record { key = chars p.0; value = text_of p.1 }

unfoldable pub element_of : List ℕ × Data → Element
element_of p = record { level = chars p.0; value = text_of p.1 }

unfoldable pub resource_of : Data → Resource
resource_of d = record { elements = map_at element_of key.Elements d; owner = text_at key.OwnerUser d }

-- a request without a time is made now
unfoldable pub request_of : Moment → Data → AccessRequest
request_of now d = record {
  user = text_at key.User d;
  groups = list_at text_of key.UserGroups d;
  resource = resource_of (within key.Resource d);
  access = text_at key.AccessType d;
  moment = record { 0 = i64_at now.0 key.AccessTime d };
  address = text_at key.ClientAddress d;
  context = map_at pair_of key.Context d;
}

-- ---- service definitions

unfoldable pub level_of : Data → Level
level_of d = record {
  name = text_at key.Name d;
  level = i64_at (pos 0) key.Level d;
  parent = text_at key.Parent d;
  mandatory = bool_at false key.Mandatory d;
  recursive = bool_at false key.RecursiveSupported d;
  excludes = bool_at false key.ExcludesSupported d;
  wild = truth_word_at true key.WildCard (within key.MatcherOptions d);
  fold = truth_word_at true key.IgnoreCase (within key.MatcherOptions d);
}

unfoldable pub access_type_of : Data → AccessType
access_type_of d = record { name = text_at key.Name d; implied = list_at text_of key.ImpliedGrants d }

unfoldable pub condition_def_of : Data → ConditionDef
condition_def_of d = record { name = text_at key.Name d; evaluator = text_at key.Evaluator d; options = map_at pair_of key.EvaluatorOptions d }

unfoldable pub mask_type_of : Data → MaskType
mask_type_of d = record { name = text_at key.Name d; transformer = text_at key.Transformer d }

unfoldable pub service_def_of : Data → ServiceDef
service_def_of d = record {
  name = text_at key.Name d;
  levels = list_at level_of key.Resources d;
  access_types = list_at access_type_of key.AccessTypes d;
  conditions = list_at condition_def_of key.PolicyConditions d;
  masks = list_at mask_type_of key.MaskTypes (within key.DataMaskDef d);
  mask_access = names_at key.AccessTypes (within key.DataMaskDef d);
  mask_levels = names_at key.Resources (within key.DataMaskDef d);
  filter_access = names_at key.AccessTypes (within key.RowFilterDef d);
  filter_levels = names_at key.Resources (within key.RowFilterDef d);
}

-- ---- roles, zones, tags

unfoldable pub role_of : Data → RoleRow
role_of d = record { name = text_at key.Name d; users = names_at key.Users d; groups = names_at key.Groups d; roles = names_at key.Roles d }

unfoldable pub zone_level_of : List ℕ × Data → ZoneLevel
zone_level_of p = record { level = chars p.0; values = list_of text_of p.1 }

unfoldable pub zone_service_of : List ℕ × Data → ZoneService
zone_service_of p = record { service = chars p.0; resources = list_at (map_of zone_level_of) key.Resources p.1 }

unfoldable pub subjects_of : Key → Key → Key → Data → Subjects
subjects_of users groups roles d = record { users = list_at text_of users d; groups = list_at text_of groups d; roles = list_at text_of roles d }

unfoldable pub zone_of : Data → ZoneRow
zone_of d = record {
  name = text_at key.Name d;
  services = map_at zone_service_of key.Services d;
  tag_services = list_at text_of key.TagServices d;
  admins = subjects_of key.AdminUsers key.AdminUserGroups key.AdminRoles d;
  auditors = subjects_of key.AuditUsers key.AuditUserGroups key.AuditRoles d;
}

unfoldable pub tag_of : Data → Tag
tag_of d = record { kind = text_at key.Type d; attributes = map_at pair_of key.Attributes d }

-- a tag row of this service
unfoldable pub tag_row_for : List ℕ → Data → TagRow
tag_row_for service d = record {
  id = i64_at (pos 0) key.Id d;
  service = service;
  resources = map_at policy_resource_of key.ResourceElements d;
  tags = list_at tag_of key.Tags d;
}

unfoldable pub tag_row_of : Data → TagRow
tag_row_of d = tag_row_for (text_at key.ServiceName d) d

unfoldable pub time_zone_of : Data → TimeZoneRow
time_zone_of d = record { name = text_at key.Name d; rule = text_at key.Rule d }

-- ---- facts

-- the tag rows are the service's own, whatever service they name
unfoldable pub facts_of : Data → Facts
facts_of d = record {
  service = text_at key.Service d;
  fallback = bool_at false key.Fallback d;
  def = service_def_of (within key.ServiceDef d);
  tag_def = optional_at service_def_of key.TagServiceDef d;
  policies = list_at policy_of key.Policies d;
  tag_policies = list_at policy_of key.TagPolicies d;
  zones = list_at zone_of key.Zones d;
  roles = list_at role_of key.Roles d;
  tag_rows = list_at (tag_row_for (text_at key.Service d)) key.Resources d;
  time_zones = list_at time_zone_of key.TimeZones d;
  policy_version = record { 0 = u64_at 1 key.PolicyVersion d };
  tag_version = record { 0 = u64_at 1 key.TagVersion d };
  role_version = record { 0 = u64_at 0 key.RoleVersion d };
}
