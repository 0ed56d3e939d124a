-- The shapes of the records: the table of the fields of each, in the order of the format.
use Rattle.std.specs.Prelude.{ℕ, List, [], ◌∷◌}
use Rattle.rg_json.specs.declared.shape.Keys.TheVariants.{Any, Names}
use Rattle.rg_json.specs.declared.shape.Need.{Need}
use Rattle.rg_json.specs.declared.shape.Need.TheVariants.{Must, May}
use Rattle.rg_json.specs.Kinds.{fields}
use Rattle.rg_json.specs.Shape.{Shape, text, name, value, truth, truth_word, integer, count, anything, text_or, list_of, map_of, record_of}
use Rattle.rg_wire.specs.declared.key.Key.{Key}
use Rattle.rg_wire.specs.declared.key.Key.TheVariants as key
use Rattle.rg_wire.specs.declared.record.Record.{Record}
use Rattle.rg_wire.specs.declared.record.Record.TheVariants as the
use Rattle.rg_wire.specs.Names.{name_of}

-- a field that is needed, and one that may be missing
abbrev pub must : Key → Shape → List ℕ × Need × Shape
must key s = (name_of key, Must, s)

abbrev pub may : Key → Shape → List ℕ × Need × Shape
may key s = (name_of key, May, s)

-- an access entry
abbrev pub entry_shape : Shape
entry_shape = record_of (fields (
    must key.Type text ∷
    may key.IsAllowed truth ∷ []))

-- a condition of a policy or an item
abbrev pub condition_shape : Shape
condition_shape = record_of (fields (
    must key.Type text ∷
    may key.Values (list_of text) ∷ []))

-- how an item masks
abbrev pub mask_shape : Shape
mask_shape = record_of (fields (
    may key.DataMaskType text ∷
    may key.ConditionExpr text ∷
    may key.ValueExpr text ∷ []))

-- the row filter of an item
abbrev pub filter_info_shape : Shape
filter_info_shape = record_of (fields (
    may key.FilterExpr text ∷ []))

-- an item
abbrev pub item_shape : Shape
item_shape = record_of (fields (
    may key.Accesses (list_of entry_shape) ∷
    may key.Users (list_of text) ∷
    may key.Groups (list_of text) ∷
    may key.Roles (list_of text) ∷
    may key.Conditions (list_of condition_shape) ∷
    may key.DelegateAdmin truth ∷
    may key.DataMaskInfo mask_shape ∷
    may key.RowFilterInfo filter_info_shape ∷ []))

-- the values of a level
abbrev pub policy_resource_shape : Shape
policy_resource_shape = record_of (fields (
    may key.Values (list_of text) ∷
    may key.IsExcludes truth ∷
    may key.IsRecursive truth ∷ []))

-- when a policy is valid; what a recurrence is isn't looked at
abbrev pub schedule_shape : Shape
schedule_shape = record_of (fields (
    may key.StartTime text ∷
    may key.EndTime text ∷
    may key.TimeZone text ∷
    may key.Recurrences (list_of anything) ∷ []))

-- a policy
abbrev pub policy_shape : Shape
policy_shape = record_of (fields (
    may key.Id integer ∷
    may key.Guid text ∷
    may key.Version count ∷
    may key.Service text ∷
    may key.Name text ∷
    may key.PolicyType integer ∷
    may key.PolicyPriority integer ∷
    may key.Resources (map_of Any policy_resource_shape) ∷
    may key.AdditionalResources (list_of (map_of Any policy_resource_shape)) ∷
    may key.Conditions (list_of condition_shape) ∷
    may key.PolicyItems (list_of item_shape) ∷
    may key.DenyPolicyItems (list_of item_shape) ∷
    may key.AllowExceptions (list_of item_shape) ∷
    may key.DenyExceptions (list_of item_shape) ∷
    may key.DataMaskPolicyItems (list_of item_shape) ∷
    may key.RowFilterPolicyItems (list_of item_shape) ∷
    may key.ValiditySchedules (list_of schedule_shape) ∷
    may key.ZoneName text ∷
    may key.IsDenyAllElse truth ∷
    may key.IsEnabled truth ∷
    may key.IsAuditEnabled truth ∷ []))

-- what a request asks about
abbrev pub resource_shape : Shape
resource_shape = record_of (fields (
    must key.Elements (map_of Names value) ∷
    may key.OwnerUser text ∷ []))

-- a request
abbrev pub request_shape : Shape
request_shape = record_of (fields (
    must key.User name ∷
    may key.UserGroups (list_of name) ∷
    must key.Resource resource_shape ∷
    must key.AccessType name ∷
    may key.AccessTime integer ∷
    may key.ClientAddress text ∷
    may key.Context (map_of Any text) ∷ []))

-- a level's matcher options
abbrev pub options_shape : Shape
options_shape = record_of (fields (
    may key.WildCard truth_word ∷
    may key.IgnoreCase truth_word ∷ []))

-- a resource level
abbrev pub level_shape : Shape
level_shape = record_of (fields (
    must key.Name text ∷
    may key.Level integer ∷
    may key.Parent text ∷
    may key.Mandatory truth ∷
    may key.RecursiveSupported truth ∷
    may key.ExcludesSupported truth ∷
    may key.MatcherOptions options_shape ∷ []))

-- an access type
abbrev pub access_type_shape : Shape
access_type_shape = record_of (fields (
    must key.Name text ∷
    may key.ImpliedGrants (list_of text) ∷ []))

-- a condition of a definition
abbrev pub condition_def_shape : Shape
condition_def_shape = record_of (fields (
    must key.Name text ∷
    may key.Evaluator text ∷
    may key.EvaluatorOptions (map_of Any text) ∷ []))

-- a mask type
abbrev pub mask_type_shape : Shape
mask_type_shape = record_of (fields (
    must key.Name text ∷
    may key.Transformer text ∷ []))

-- what is kept by its name alone
abbrev pub named_shape : Shape
named_shape = record_of (fields (
    must key.Name text ∷ []))

-- the data mask part
abbrev pub mask_part_shape : Shape
mask_part_shape = record_of (fields (
    may key.MaskTypes (list_of mask_type_shape) ∷
    may key.AccessTypes (list_of named_shape) ∷
    may key.Resources (list_of named_shape) ∷ []))

-- the row filter part
abbrev pub filter_part_shape : Shape
filter_part_shape = record_of (fields (
    may key.AccessTypes (list_of named_shape) ∷
    may key.Resources (list_of named_shape) ∷ []))

-- a service definition
abbrev pub service_def_shape : Shape
service_def_shape = record_of (fields (
    must key.Name text ∷
    may key.Resources (list_of level_shape) ∷
    may key.AccessTypes (list_of access_type_shape) ∷
    may key.PolicyConditions (list_of condition_def_shape) ∷
    may key.DataMaskDef mask_part_shape ∷
    may key.RowFilterDef filter_part_shape ∷ []))

-- a role
abbrev pub role_shape : Shape
role_shape = record_of (fields (
    must key.Name text ∷
    may key.Users (list_of (text_or named_shape)) ∷
    may key.Groups (list_of (text_or named_shape)) ∷
    may key.Roles (list_of (text_or named_shape)) ∷ []))

-- the resources of a service in a zone
abbrev pub zone_service_shape : Shape
zone_service_shape = record_of (fields (
    may key.Resources (list_of (map_of Any (list_of text))) ∷ []))

-- a security zone
abbrev pub zone_shape : Shape
zone_shape = record_of (fields (
    must key.Name text ∷
    may key.Services (map_of Any zone_service_shape) ∷
    may key.TagServices (list_of text) ∷
    may key.AdminUsers (list_of text) ∷
    may key.AdminUserGroups (list_of text) ∷
    may key.AdminRoles (list_of text) ∷
    may key.AuditUsers (list_of text) ∷
    may key.AuditUserGroups (list_of text) ∷
    may key.AuditRoles (list_of text) ∷ []))

-- a tag
abbrev pub tag_shape : Shape
tag_shape = record_of (fields (
    must key.Type text ∷
    may key.Attributes (map_of Any text) ∷ []))

-- a resource with its tags
abbrev pub tag_row_shape : Shape
tag_row_shape = record_of (fields (
    may key.Id integer ∷
    must key.ServiceName text ∷
    may key.ResourceElements (map_of Any policy_resource_shape) ∷
    may key.Tags (list_of tag_shape) ∷ []))

-- the same among facts, which say the service themselves
abbrev pub facts_tag_row_shape : Shape
facts_tag_row_shape = record_of (fields (
    may key.Id integer ∷
    may key.ServiceName text ∷
    may key.ResourceElements (map_of Any policy_resource_shape) ∷
    may key.Tags (list_of tag_shape) ∷ []))

-- a time zone
abbrev pub time_zone_shape : Shape
time_zone_shape = record_of (fields (
    must key.Name text ∷
    must key.Rule text ∷ []))

-- facts
abbrev pub facts_shape : Shape
facts_shape = record_of (fields (
    must key.Service text ∷
    may key.Fallback truth ∷
    must key.ServiceDef service_def_shape ∷
    may key.TagServiceDef service_def_shape ∷
    may key.Policies (list_of policy_shape) ∷
    may key.TagPolicies (list_of policy_shape) ∷
    may key.Zones (list_of zone_shape) ∷
    may key.Roles (list_of role_shape) ∷
    may key.Resources (list_of facts_tag_row_shape) ∷
    may key.TimeZones (list_of time_zone_shape) ∷
    may key.PolicyVersion count ∷
    may key.TagVersion count ∷
    may key.RoleVersion count ∷ []))

-- a service
abbrev pub service_shape : Shape
service_shape = record_of (fields (
    must key.Name text ∷
    must key.Type text ∷
    may key.TagService text ∷
    may key.Fallback truth ∷ []))

-- a user
abbrev pub user_shape : Shape
user_shape = record_of (fields (
    must key.Name text ∷
    may key.Groups (list_of text) ∷ []))

-- what an administration starts from
abbrev pub config_shape : Shape
config_shape = record_of (fields (
    may key.Admins (list_of text) ∷
    may key.Users (list_of user_shape) ∷
    may key.TimeZones (list_of time_zone_shape) ∷
    may key.ServiceDefs (list_of service_def_shape) ∷
    may key.Services (list_of service_shape) ∷
    must key.Plugin text ∷ []))

-- ---- parts of a download

-- a change of a policy
abbrev pub policy_change_shape : Shape
policy_change_shape = record_of (fields (
    must key.ChangeType count ∷
    must key.Policy policy_shape ∷
    may key.Tag truth ∷ []))

-- the changes of a service's policies
abbrev pub policy_delta_shape : Shape
policy_delta_shape = record_of (fields (
    must key.From count ∷
    must key.To count ∷
    may key.Changes (list_of policy_change_shape) ∷
    may key.Zones (list_of zone_shape) ∷ []))

-- all that the policy version of a service speaks of
abbrev pub policy_whole_shape : Shape
policy_whole_shape = record_of (fields (
    must key.Version count ∷
    may key.Fallback truth ∷
    must key.Def service_def_shape ∷
    may key.TagDef service_def_shape ∷
    may key.Policies (list_of policy_shape) ∷
    may key.TagPolicies (list_of policy_shape) ∷
    may key.Zones (list_of zone_shape) ∷
    may key.TimeZones (list_of time_zone_shape) ∷ []))

-- a change of a tag row
abbrev pub tag_change_shape : Shape
tag_change_shape = record_of (fields (
    must key.ChangeType count ∷
    must key.Row tag_row_shape ∷ []))

-- the changes of a service's tag rows
abbrev pub tag_delta_shape : Shape
tag_delta_shape = record_of (fields (
    must key.From count ∷
    must key.To count ∷
    may key.Changes (list_of tag_change_shape) ∷ []))

-- all tag rows of a service
abbrev pub tag_whole_shape : Shape
tag_whole_shape = record_of (fields (
    must key.Version count ∷
    may key.Rows (list_of tag_row_shape) ∷ []))

-- all roles
abbrev pub role_whole_shape : Shape
role_whole_shape = record_of (fields (
    must key.Version count ∷
    may key.Roles (list_of role_shape) ∷ []))

-- the shape of a record
unfoldable pub record_shape : Record → Shape
record_shape the.Entry = entry_shape
record_shape the.Condition = condition_shape
record_shape the.Mask = mask_shape
record_shape the.FilterInfo = filter_info_shape
record_shape the.Item = item_shape
record_shape the.PolicyResource = policy_resource_shape
record_shape the.Schedule = schedule_shape
record_shape the.Policy = policy_shape
record_shape the.Resource = resource_shape
record_shape the.Request = request_shape
record_shape the.Options = options_shape
record_shape the.Level = level_shape
record_shape the.AccessType = access_type_shape
record_shape the.ConditionDef = condition_def_shape
record_shape the.MaskType = mask_type_shape
record_shape the.Named = named_shape
record_shape the.MaskPart = mask_part_shape
record_shape the.FilterPart = filter_part_shape
record_shape the.ServiceDef = service_def_shape
record_shape the.Role = role_shape
record_shape the.ZoneService = zone_service_shape
record_shape the.Zone = zone_shape
record_shape the.Tag = tag_shape
record_shape the.TagRow = tag_row_shape
record_shape the.FactsTagRow = facts_tag_row_shape
record_shape the.TimeZone = time_zone_shape
record_shape the.Facts = facts_shape
record_shape the.Service = service_shape
record_shape the.User = user_shape
record_shape the.Config = config_shape
record_shape the.PolicyChange = policy_change_shape
record_shape the.PolicyDelta = policy_delta_shape
record_shape the.PolicyWhole = policy_whole_shape
record_shape the.TagChange = tag_change_shape
record_shape the.TagDelta = tag_delta_shape
record_shape the.TagWhole = tag_whole_shape
record_shape the.RoleWhole = role_whole_shape
