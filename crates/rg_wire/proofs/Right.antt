-- What was printed for a policy has no fault.
use Rattle.std.proofs.Common.{◌≡◌, ℕ, ℤ, List, [], ◌∷◌, Some, None, Bool, true, false, refl, ap, ◌∙◌}
use Rattle.std.specs.Str.{chars, encode_utf8_all}
use Rattle.serde_json.specs.Data.{Data, no_members}
use Rattle.serde_json.specs.Find.{get}
use Rattle.rg_base.specs.Listed.{Listed}
use Rattle.rg_json.specs.declared.shape.Keys.TheVariants.{Any}
use Rattle.rg_json.specs.declared.shape.Need.TheVariants.{Must, May}
use Rattle.rg_json.specs.Fields.{unless_null, pairs_list}
use Rattle.rg_json.specs.Faults.{fault_of, members_fault, below}
use Rattle.rg_json.specs.Own.{EachOf, IsInteger}
use Rattle.rg_json.specs.Printing.{text_data, bool_data, integer_data, count_data, list_data}
use Rattle.rg_json.specs.Shape.{text, truth, integer, count, anything, list_of, map_of}
use Rattle.rg_json.proofs.Again.{get_with}
use Rattle.rg_json.proofs.Right.{first_right, field_right, field_found, head, maybe, list_right, own_list_right, text_right, texts_right, integer_right, count_right}
use Rattle.rg_policy.specs.declared.policy.AccessEntry.{AccessEntry}
use Rattle.rg_policy.specs.declared.policy.PolicyCondition.{PolicyCondition}
use Rattle.rg_policy.specs.declared.policy.MaskInfo.{MaskInfo}
use Rattle.rg_policy.specs.declared.policy.ScheduleText.{ScheduleText}
use Rattle.rg_policy.specs.declared.policy.Item.{Item}
use Rattle.rg_policy.specs.declared.policy.PolicyResource.{PolicyResource}
use Rattle.rg_policy.specs.declared.policy.ResourceMap.{ResourceMap}
use Rattle.rg_policy.specs.declared.policy.Policy.{Policy}
use Rattle.rg_wire.specs.declared.key.Key.{Key}
use Rattle.rg_wire.specs.declared.key.Key.TheVariants as key
use Rattle.rg_wire.specs.Names.{name_of}
use Rattle.rg_wire.specs.Shapes.{entry_shape, condition_shape, mask_shape, filter_info_shape, item_shape, policy_resource_shape, schedule_shape, policy_shape}
use Rattle.rg_wire.specs.Printing.{entry_data, entry_members, condition_data, condition_members, mask_data, mask_members, schedule_data, schedule_members, recurrences_data, filter_data, filter_members, item_data, item_members, resource_data, resource_members, resources_data, map_data, policy_data, policy_members}
use Rattle.rg_wire.specs.Own.{IsInOrder, IsMap, IsPolicy}
use Rattle.rg_wire.proofs.Policies.{in_turn, members_in_turn}

text_there : (t : List ℕ) → unless_null (text_data t) ≡ Some (text_data t)
unfolding text_data
text_there t = refl

entry_right : (e : AccessEntry) → fault_of entry_shape (entry_data e) ≡ None
unfolding entry_data name_of
entry_right e =
    first_right _ _ (field_right (name_of key.Type) Must text (text_data e.access) (entry_data e) (field_found (name_of key.Type) _ _ (get_with name_of (name_of key.Type) (entry_members e) no_members) (text_there e.access)) (text_right e.access)) (
    first_right _ _ (field_right (name_of key.IsAllowed) May truth (bool_data e.allowed) (entry_data e) (field_found (name_of key.IsAllowed) _ _ (get_with name_of (name_of key.IsAllowed) (entry_members e) no_members) refl) refl)
    refl)

condition_right : (c : PolicyCondition) → fault_of condition_shape (condition_data c) ≡ None
unfolding condition_data name_of text_data list_data
condition_right c =
    let at = λ (k : Key). get_with name_of (name_of k) (condition_members c) no_members in
    let d = condition_data c in
    first_right _ _ (head (name_of key.Type) Must text (text_data c.name) d (at key.Type) refl (text_right c.name)) (
    first_right _ _ (head (name_of key.Values) May (list_of text) (list_data text_data c.values) d (at key.Values) refl (texts_right c.values)) refl)

mask_right : (m : MaskInfo) → fault_of mask_shape (mask_data m) ≡ None
unfolding mask_data name_of text_data
mask_right m =
    let at = λ (k : Key). get_with name_of (name_of k) (mask_members m) no_members in
    let d = mask_data m in
    first_right _ _ (head (name_of key.DataMaskType) May text (text_data m.kind) d (at key.DataMaskType) refl (text_right m.kind)) (
    first_right _ _ (head (name_of key.ConditionExpr) May text (text_data m.condition_expr) d (at key.ConditionExpr) refl (text_right m.condition_expr)) (
    first_right _ _ (head (name_of key.ValueExpr) May text (text_data m.value_expr) d (at key.ValueExpr) refl (text_right m.value_expr)) refl))

mask_there : (m : MaskInfo) → unless_null (mask_data m) ≡ Some (mask_data m)
unfolding mask_data
mask_there m = refl

filter_right : (t : List ℕ) → fault_of filter_info_shape (filter_data t) ≡ None
unfolding name_of text_data filter_data
filter_right t =
    first_right _ _ (head (name_of key.FilterExpr) May text (text_data t) (filter_data t) (get_with name_of (name_of key.FilterExpr) (filter_members t) no_members) refl (text_right t)) refl

filter_there : (t : List ℕ) → unless_null (filter_data t) ≡ Some (filter_data t)
unfolding filter_data
filter_there t = refl

recurrences_right : (b : Bool) → fault_of (list_of anything) (recurrences_data b) ≡ None
recurrences_right true = refl
recurrences_right false = refl

recurrences_there : (b : Bool) → unless_null (recurrences_data b) ≡ Some (recurrences_data b)
recurrences_there true = refl
recurrences_there false = refl

schedule_right : (s : ScheduleText) → fault_of schedule_shape (schedule_data s) ≡ None
unfolding schedule_data name_of text_data
schedule_right s =
    let at = λ (k : Key). get_with name_of (name_of k) (schedule_members s) no_members in
    let d = schedule_data s in
    first_right _ _ (head (name_of key.StartTime) May text (text_data s.start_time) d (at key.StartTime) refl (text_right s.start_time)) (
    first_right _ _ (head (name_of key.EndTime) May text (text_data s.end_time) d (at key.EndTime) refl (text_right s.end_time)) (
    first_right _ _ (head (name_of key.TimeZone) May text (text_data s.time_zone) d (at key.TimeZone) refl (text_right s.time_zone)) (
    first_right _ _ (head (name_of key.Recurrences) May (list_of anything) (recurrences_data s.recurring) d (at key.Recurrences) (recurrences_there s.recurring) (recurrences_right s.recurring)) refl)))

item_right : (x : Item) → fault_of item_shape (item_data x) ≡ None
unfolding item_data name_of text_data list_data
item_right x =
    let at = λ (k : Key). get_with name_of (name_of k) (item_members x) no_members in
    let d = item_data x in
    first_right _ _ (head (name_of key.Accesses) May (list_of entry_shape) (list_data entry_data x.accesses) d (at key.Accesses) refl (list_right entry_shape entry_data entry_right x.accesses)) (
    first_right _ _ (head (name_of key.Users) May (list_of text) (list_data text_data x.users) d (at key.Users) refl (texts_right x.users)) (
    first_right _ _ (head (name_of key.Groups) May (list_of text) (list_data text_data x.groups) d (at key.Groups) refl (texts_right x.groups)) (
    first_right _ _ (head (name_of key.Roles) May (list_of text) (list_data text_data x.roles) d (at key.Roles) refl (texts_right x.roles)) (
    first_right _ _ (head (name_of key.Conditions) May (list_of condition_shape) (list_data condition_data x.conditions) d (at key.Conditions) refl (list_right condition_shape condition_data condition_right x.conditions)) (
    first_right _ _ (head (name_of key.DelegateAdmin) May truth (bool_data x.delegate) d (at key.DelegateAdmin) refl refl) (
    first_right _ _ (maybe (name_of key.DataMaskInfo) mask_shape mask_data x.mask d (at key.DataMaskInfo) mask_there mask_right) (
    first_right _ _ (maybe (name_of key.RowFilterInfo) filter_info_shape filter_data x.filter d (at key.RowFilterInfo) filter_there filter_right) refl)))))))

resource_right : (r : PolicyResource) → fault_of policy_resource_shape (resource_data r) ≡ None
unfolding resource_data name_of list_data
resource_right r =
    let at = λ (k : Key). get_with name_of (name_of k) (resource_members r) no_members in
    let d = resource_data r in
    first_right _ _ (head (name_of key.Values) May (list_of text) (list_data text_data r.values) d (at key.Values) refl (texts_right r.values)) (
    first_right _ _ (head (name_of key.IsExcludes) May truth (bool_data r.excludes) d (at key.IsExcludes) refl refl) (
    first_right _ _ (head (name_of key.IsRecursive) May truth (bool_data r.recursive) d (at key.IsRecursive) refl refl) refl))

turn_right : (rs : List PolicyResource) → members_fault Any (fault_of policy_resource_shape) (pairs_list (in_turn rs)) ≡ None
turn_right [] = refl
turn_right (r ∷ rs) = first_right _ _ (ap (below (chars (encode_utf8_all r.level))) (resource_right r)) (turn_right rs)

resources_right : (rs : Listed PolicyResource) → IsInOrder rs.items → fault_of (map_of Any policy_resource_shape) (resources_data rs) ≡ None
unfolding resources_data
resources_right rs ordered = ap (λ ms. members_fault Any (fault_of policy_resource_shape) (pairs_list ms)) (members_in_turn rs.items ordered) ∙ turn_right rs.items

map_right : (m : ResourceMap) → IsMap m → fault_of (map_of Any policy_resource_shape) (map_data m) ≡ None
unfolding map_data
map_right m own = resources_right m.levels own.ordered

maps_right : (ms : Listed ResourceMap) → EachOf IsMap ms.items → fault_of (list_of (map_of Any policy_resource_shape)) (list_data map_data ms) ≡ None
maps_right ms own = own_list_right (map_of Any policy_resource_shape) map_data IsMap map_right ms own

items_right_in : (xs : Listed Item) → fault_of (list_of item_shape) (list_data item_data xs) ≡ None
items_right_in xs = list_right item_shape item_data item_right xs

pub policy_right : (p : Policy) → IsPolicy p → fault_of policy_shape (policy_data p) ≡ None
unfolding policy_data name_of text_data list_data integer_data resources_data
policy_right p own =
    let at = λ (k : Key). get_with name_of (name_of k) (policy_members p) no_members in
    let d = policy_data p in
    let words = λ (k : Key) (t : List ℕ) (found : get (name_of k) d ≡ Some (text_data t)). head (name_of k) May text (text_data t) d found refl (text_right t) in
    let number = λ (k : Key) (z : ℤ) (found : get (name_of k) d ≡ Some (integer_data z)) (h : IsInteger z). head (name_of k) May integer (integer_data z) d found refl (integer_right z h) in
    let flag = λ (k : Key) (b : Bool) (found : get (name_of k) d ≡ Some (bool_data b)). head (name_of k) May truth (bool_data b) d found refl refl in
    let each = λ (k : Key) (xs : Listed Item) (found : get (name_of k) d ≡ Some (list_data item_data xs)). head (name_of k) May (list_of item_shape) (list_data item_data xs) d found refl (items_right_in xs) in
    first_right _ _ (number key.Id p.id.0 (at key.Id) own.id) (
    first_right _ _ (words key.Guid p.guid (at key.Guid)) (
    first_right _ _ (head (name_of key.Version) May count (count_data p.version.0) d (at key.Version) refl (count_right p.version.0)) (
    first_right _ _ (words key.Service p.service (at key.Service)) (
    first_right _ _ (words key.Name p.name (at key.Name)) (
    first_right _ _ (number key.PolicyType p.policy_type (at key.PolicyType) own.policy_type) (
    first_right _ _ (number key.PolicyPriority p.priority (at key.PolicyPriority) own.priority) (
    first_right _ _ (head (name_of key.Resources) May (map_of Any policy_resource_shape) (resources_data p.resources) d (at key.Resources) refl (resources_right p.resources own.resources.ordered)) (
    first_right _ _ (head (name_of key.AdditionalResources) May (list_of (map_of Any policy_resource_shape)) (list_data map_data p.additional) d (at key.AdditionalResources) refl (maps_right p.additional own.additional.0)) (
    first_right _ _ (head (name_of key.Conditions) May (list_of condition_shape) (list_data condition_data p.conditions) d (at key.Conditions) refl (list_right condition_shape condition_data condition_right p.conditions)) (
    first_right _ _ (each key.PolicyItems p.items (at key.PolicyItems)) (
    first_right _ _ (each key.DenyPolicyItems p.deny_items (at key.DenyPolicyItems)) (
    first_right _ _ (each key.AllowExceptions p.allow_exceptions (at key.AllowExceptions)) (
    first_right _ _ (each key.DenyExceptions p.deny_exceptions (at key.DenyExceptions)) (
    first_right _ _ (each key.DataMaskPolicyItems p.mask_items (at key.DataMaskPolicyItems)) (
    first_right _ _ (each key.RowFilterPolicyItems p.filter_items (at key.RowFilterPolicyItems)) (
    first_right _ _ (head (name_of key.ValiditySchedules) May (list_of schedule_shape) (list_data schedule_data p.schedules) d (at key.ValiditySchedules) refl (list_right schedule_shape schedule_data schedule_right p.schedules)) (
    first_right _ _ (words key.ZoneName p.zone (at key.ZoneName)) (
    first_right _ _ (flag key.IsDenyAllElse p.deny_all_else (at key.IsDenyAllElse)) (
    first_right _ _ (flag key.IsEnabled p.enabled (at key.IsEnabled)) (
    first_right _ _ (flag key.IsAuditEnabled p.audited (at key.IsAuditEnabled)) refl))))))))))))))))))))
