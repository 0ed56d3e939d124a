-- What is printed for a record. Members stand in byte order of their keys, since `put` keeps that order.
use Rattle.std.specs.Prelude.{ℕ, Bool, true, false, List, [], ◌∷◌, codes}
use Rattle.std.specs.Str.{encode_utf8_all}
use Rattle.serde_json.specs.Data.{Data, string, array, object, item, no_items, Members, no_members, put}
use Rattle.serde_json.specs.Written.{compact_text}
use Rattle.rg_base.specs.Listed.{Listed}
use Rattle.rg_policy.specs.declared.policy.AccessEntry.{AccessEntry}
use Rattle.rg_policy.specs.declared.policy.PolicyCondition.{PolicyCondition}
use Rattle.rg_policy.specs.declared.policy.MaskInfo.{MaskInfo}
use Rattle.rg_policy.specs.declared.policy.ScheduleText.{ScheduleText}
use Rattle.rg_policy.specs.declared.policy.Item.{Item}
use Rattle.rg_policy.specs.declared.policy.PolicyResource.{PolicyResource}
use Rattle.rg_policy.specs.declared.policy.ResourceMap.{ResourceMap}
use Rattle.rg_policy.specs.declared.policy.Policy.{Policy}
use Rattle.rg_policy.specs.declared.request.AccessRequest.{AccessRequest}
use Rattle.rg_facts.specs.declared.decision.Access.{Access}
use Rattle.rg_facts.specs.declared.decision.Access.TheVariants.{Allowed, Denied, Undetermined}
use Rattle.rg_facts.specs.declared.decision.Decision.{Decision}
use Rattle.rg_facts.specs.declared.decision.MaskText.{MaskText}
use Rattle.rg_json.specs.Printing.{text_data, bool_data, integer_data, count_data, list_data, option_data}
use Rattle.rg_json.specs.Printing as named
use Rattle.rg_wire.specs.declared.key.Key.{Key}
use Rattle.rg_wire.specs.declared.key.Key.TheVariants as key
use Rattle.rg_wire.specs.Names.{name_of}

-- a map of these members, each put in turn
abbrev pub object_of : List (Key × Data) → Data
object_of ps = named.object_of name_of ps

-- ---- policies

abbrev pub entry_members : AccessEntry → List (Key × Data)
entry_members e = (key.Type, text_data e.access) ∷ (key.IsAllowed, bool_data e.allowed) ∷ []

unfoldable pub entry_data : AccessEntry → Data
entry_data e = object_of (entry_members e)

abbrev pub condition_members : PolicyCondition → List (Key × Data)
condition_members c = (key.Type, text_data c.name) ∷ (key.Values, list_data text_data c.values) ∷ []

unfoldable pub condition_data : PolicyCondition → Data
condition_data c = object_of (condition_members c)

abbrev pub mask_members : MaskInfo → List (Key × Data)
mask_members m =
    (key.DataMaskType, text_data m.kind) ∷
    (key.ConditionExpr, text_data m.condition_expr) ∷
    (key.ValueExpr, text_data m.value_expr) ∷ []

unfoldable pub mask_data : MaskInfo → Data
mask_data m = object_of (mask_members m)

-- `[{}]` where it recurs, else `[]`
abbrev pub recurrences_data : Bool → Data
recurrences_data true = array (item (object no_members) no_items)
recurrences_data false = array no_items

abbrev pub schedule_members : ScheduleText → List (Key × Data)
schedule_members s =
    (key.StartTime, text_data s.start_time) ∷
    (key.EndTime, text_data s.end_time) ∷
    (key.TimeZone, text_data s.time_zone) ∷
    (key.Recurrences, recurrences_data s.recurring) ∷ []

unfoldable pub schedule_data : ScheduleText → Data
schedule_data s = object_of (schedule_members s)

abbrev pub filter_members : List ℕ → List (Key × Data)
filter_members t = (key.FilterExpr, text_data t) ∷ []

-- the text as one map within another
unfoldable pub filter_data : List ℕ → Data
filter_data t = object_of (filter_members t)

-- an option under a dotted name is null at its first name
abbrev pub item_members : Item → List (Key × Data)
item_members i =
    (key.Accesses, list_data entry_data i.accesses) ∷
    (key.Users, list_data text_data i.users) ∷
    (key.Groups, list_data text_data i.groups) ∷
    (key.Roles, list_data text_data i.roles) ∷
    (key.Conditions, list_data condition_data i.conditions) ∷
    (key.DelegateAdmin, bool_data i.delegate) ∷
    (key.DataMaskInfo, option_data mask_data i.mask) ∷
    (key.RowFilterInfo, option_data filter_data i.filter) ∷ []

unfoldable pub item_data : Item → Data
item_data i = object_of (item_members i)

abbrev pub resource_members : PolicyResource → List (Key × Data)
resource_members r =
    (key.Values, list_data text_data r.values) ∷
    (key.IsExcludes, bool_data r.excludes) ∷
    (key.IsRecursive, bool_data r.recursive) ∷ []

unfoldable pub resource_data : PolicyResource → Data
resource_data r = object_of (resource_members r)

-- a map by level; of equal levels the first is printed, since it is put last
abbrev pub level_members : List PolicyResource → Members
level_members [] = no_members
level_members (r ∷ rs) = put (encode_utf8_all r.level) (resource_data r) (level_members rs)

unfoldable pub resources_data : Listed PolicyResource → Data
resources_data rs = object (level_members rs.items)

-- a resource map
unfoldable pub map_data : ResourceMap → Data
map_data m = resources_data m.levels

abbrev pub policy_members : Policy → List (Key × Data)
policy_members p =
    (key.Id, integer_data p.id.0) ∷
    (key.Guid, text_data p.guid) ∷
    (key.Version, count_data p.version.0) ∷
    (key.Service, text_data p.service) ∷
    (key.Name, text_data p.name) ∷
    (key.PolicyType, integer_data p.policy_type) ∷
    (key.PolicyPriority, integer_data p.priority) ∷
    (key.Resources, resources_data p.resources) ∷
    (key.AdditionalResources, list_data map_data p.additional) ∷
    (key.Conditions, list_data condition_data p.conditions) ∷
    (key.PolicyItems, list_data item_data p.items) ∷
    (key.DenyPolicyItems, list_data item_data p.deny_items) ∷
    (key.AllowExceptions, list_data item_data p.allow_exceptions) ∷
    (key.DenyExceptions, list_data item_data p.deny_exceptions) ∷
    (key.DataMaskPolicyItems, list_data item_data p.mask_items) ∷
    (key.RowFilterPolicyItems, list_data item_data p.filter_items) ∷
    (key.ValiditySchedules, list_data schedule_data p.schedules) ∷
    (key.ZoneName, text_data p.zone) ∷
    (key.IsDenyAllElse, bool_data p.deny_all_else) ∷
    (key.IsEnabled, bool_data p.enabled) ∷
    (key.IsAuditEnabled, bool_data p.audited) ∷ []

unfoldable pub policy_data : Policy → Data
policy_data p = object_of (policy_members p)

-- the text of a policy
unfoldable pub policy_text : Policy → List ℕ
policy_text p = compact_text (policy_data p)

-- ---- decisions

unfoldable pub word_of : Access → List ℕ
word_of Allowed = codes "ALLOWED"
word_of Denied = codes "DENIED"
word_of Undetermined = codes "UNDETERMINED"

abbrev pub access_data : Access → Data
access_data a = string (word_of a)

abbrev pub mask_text_members : MaskText → List (Key × Data)
mask_text_members m = (key.Expr, text_data m.expr) ∷ (key.Type, text_data m.kind) ∷ []

unfoldable pub mask_text_data : MaskText → Data
mask_text_data m = object_of (mask_text_members m)

-- the role version and the path aren't printed
abbrev pub decision_members : Decision → List (Key × Data)
decision_members d =
    (key.Access, access_data d.access) ∷
    (key.Audited, bool_data d.audited) ∷
    (key.Mask, option_data mask_text_data d.mask) ∷
    (key.PolicyId, integer_data d.policy.0) ∷
    (key.PolicyVersion, count_data d.policy_version.0) ∷
    (key.RowFilter, option_data text_data d.filter) ∷
    (key.Serial, count_data d.serial.0) ∷
    (key.TagVersion, count_data d.tag_version.0) ∷ []

unfoldable pub decision_data : Decision → Data
decision_data d = object_of (decision_members d)

-- the decision line, without its LF
unfoldable pub decision_text : Decision → List ℕ
decision_text d = compact_text (decision_data d)

-- ---- audit lines

-- the service, the request and its decision, which has the text of the resource
abbrev pub audit_members : List ℕ → AccessRequest → Decision → List (Key × Data)
audit_members service q d =
    (key.Access, text_data q.access) ∷
    (key.EvtTime, integer_data q.moment.0) ∷
    (key.Policy, integer_data d.policy.0) ∷
    (key.Repo, text_data service) ∷
    (key.ReqUser, text_data q.user) ∷
    (key.Resource, text_data d.path) ∷
    (key.Result, access_data d.access) ∷
    (key.Serial, count_data d.serial.0) ∷ []

unfoldable pub audit_data : List ℕ → AccessRequest → Decision → Data
audit_data service q d = object_of (audit_members service q d)

-- the audit line, without its LF
unfoldable pub audit_line : List ℕ → AccessRequest → Decision → List ℕ
audit_line service q d = compact_text (audit_data service q d)
