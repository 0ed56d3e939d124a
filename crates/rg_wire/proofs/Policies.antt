-- A policy that was printed is read again as itself, where its texts and numbers are ones that a policy can have.
use Rattle.std.proofs.Common.{◌≡◌, ℕ, pos, List, [], ◌∷◌, map, Option, Some, None, option_map, option_and_then, unwrap_or, Bool, true, false, length, nat_lt, refl, sym, ap, ap₂, ◌∙◌}
use Rattle.std.specs.Str.{encode_utf8_all}
use Rattle.serde_json.specs.Data.{Data, null, Members, no_members, member, put}
use Rattle.serde_json.specs.Find.{get}
use Rattle.rg_base.specs.Listed.{Listed, listed}
use Rattle.rg_json.specs.Fields.{field, unless_null, text_of, within, items_in, members_in, list_at, map_of, map_at, optional_at, is_filled, pairs_list}
use Rattle.rg_json.specs.Own.{IsText, EachOf, OwnList, OwnOption}
use Rattle.rg_json.specs.Printing.{text_data, list_data, option_data}
use Rattle.rg_json.proofs.Again.{get_with, text_again, bool_again, own_again, texts_again, integer_again, count_again}
use Rattle.rg_policy.specs.declared.policy.AccessEntry.{AccessEntry}
use Rattle.rg_policy.specs.declared.policy.PolicyCondition.{PolicyCondition}
use Rattle.rg_policy.specs.declared.policy.MaskInfo.{MaskInfo}
use Rattle.rg_policy.specs.declared.policy.ScheduleText.{ScheduleText}
use Rattle.rg_policy.specs.declared.policy.Item.{Item}
use Rattle.rg_policy.specs.declared.policy.PolicyResource.{PolicyResource}
use Rattle.rg_policy.specs.declared.policy.ResourceMap.{ResourceMap}
use Rattle.rg_policy.specs.declared.policy.Policy.{Policy}
use Rattle.rg_wire.specs.declared.key.Key.{Key}
use Rattle.rg_wire.specs.declared.key.Key.TheVariants as key
use Rattle.rg_wire.specs.Names.{name_of}
use Rattle.rg_wire.specs.Records.{entry_of, condition_of, mask_of, schedule_of, item_of, policy_resource_of, resource_map_of, policy_of}
use Rattle.rg_wire.specs.Printing.{entry_data, entry_members, condition_data, condition_members, mask_data, mask_members, schedule_data, schedule_members, recurrences_data, filter_data, filter_members, item_data, item_members, resource_data, resource_members, level_members, resources_data, map_data, policy_data, policy_members}
use Rattle.rg_wire.specs.Own.{IsEntry, IsCondition, IsMask, IsSchedule, IsItem, IsResource, IsBefore, IsInOrder, IsMap, OwnResources, IsPolicy}

entry_again : (e : AccessEntry) → IsText e.access → entry_of (entry_data e) ≡ e
unfolding entry_of entry_data name_of
entry_again e own = λ i. record {
  access = text_again (name_of key.Type) e.access (entry_data e) (get_with name_of (name_of key.Type) (entry_members e) no_members) own i;
  allowed = bool_again true (name_of key.IsAllowed) e.allowed (entry_data e) (get_with name_of (name_of key.IsAllowed) (entry_members e) no_members) i;
}

condition_again : (c : PolicyCondition) → IsCondition c → condition_of (condition_data c) ≡ c
unfolding condition_of condition_data name_of
condition_again c own =
    let at = λ (k : Key). get_with name_of (name_of k) (condition_members c) no_members in
    let d = condition_data c in
    λ i. record { name = text_again (name_of key.Type) c.name d (at key.Type) own.name i; values = texts_again (name_of key.Values) c.values d (at key.Values) own.values i }

mask_again : (m : MaskInfo) → IsMask m → mask_of (mask_data m) ≡ m
unfolding mask_of mask_data name_of
mask_again m own =
    let at = λ (k : Key). get_with name_of (name_of k) (mask_members m) no_members in
    let d = mask_data m in
    λ i. record {
      kind = text_again (name_of key.DataMaskType) m.kind d (at key.DataMaskType) own.kind i;
      condition_expr = text_again (name_of key.ConditionExpr) m.condition_expr d (at key.ConditionExpr) own.condition i;
      value_expr = text_again (name_of key.ValueExpr) m.value_expr d (at key.ValueExpr) own.value i;
    }

mask_at_again : (k : List ℕ) (o : Option MaskInfo) (d : Data) → get k d ≡ Some (option_data mask_data o) → OwnOption IsMask o → optional_at mask_of k d ≡ o
unfolding optional_at field mask_data
mask_at_again k None d found own = ap (λ x. option_map mask_of (option_and_then unless_null x)) found
mask_at_again k (Some m) d found own = ap (λ x. option_map mask_of (option_and_then unless_null x)) found ∙ ap Some (mask_again m own)

filter_again : (t : List ℕ) → get (name_of key.FilterExpr) (filter_data t) ≡ Some (text_data t)
unfolding name_of filter_data
filter_again t = get_with name_of (name_of key.FilterExpr) (filter_members t) no_members

filter_at_again : (k : List ℕ) (o : Option (List ℕ)) (d : Data) → get k d ≡ Some (option_data filter_data o) → OwnOption IsText o
    → optional_at text_of (name_of key.FilterExpr) (within k d) ≡ o
unfolding optional_at within field text_of text_data filter_data
filter_at_again k None d found own = ap (λ x. option_map text_of (field (name_of key.FilterExpr) (unwrap_or (option_and_then unless_null x) null))) found
filter_at_again k (Some t) d found own =
    ap (λ x. option_map text_of (field (name_of key.FilterExpr) (unwrap_or (option_and_then unless_null x) null))) found
    ∙ ap (λ x. option_map text_of (option_and_then unless_null x)) (filter_again t)
    ∙ ap Some own

recurrences_again : (k : List ℕ) (b : Bool) (d : Data) → get k d ≡ Some (recurrences_data b) → is_filled k d ≡ b
unfolding is_filled within items_in field
recurrences_again k true d found = ap (λ x. nat_lt 0 (length (items_in (unwrap_or (option_and_then unless_null x) null)))) found
recurrences_again k false d found = ap (λ x. nat_lt 0 (length (items_in (unwrap_or (option_and_then unless_null x) null)))) found

schedule_again : (s : ScheduleText) → IsSchedule s → schedule_of (schedule_data s) ≡ s
unfolding schedule_of schedule_data name_of
schedule_again s own =
    let at = λ (k : Key). get_with name_of (name_of k) (schedule_members s) no_members in
    let d = schedule_data s in
    λ i. record {
      start_time = text_again (name_of key.StartTime) s.start_time d (at key.StartTime) own.start i;
      end_time = text_again (name_of key.EndTime) s.end_time d (at key.EndTime) own.end i;
      time_zone = text_again (name_of key.TimeZone) s.time_zone d (at key.TimeZone) own.zone i;
      recurring = recurrences_again (name_of key.Recurrences) s.recurring d (at key.Recurrences) i;
    }

item_again : (x : Item) → IsItem x → item_of (item_data x) ≡ x
unfolding item_of item_data name_of
item_again x own =
    let at = λ (k : Key). get_with name_of (name_of k) (item_members x) no_members in
    let d = item_data x in
    λ i. record {
      accesses = own_again entry_of entry_data IsEntry entry_again (name_of key.Accesses) x.accesses d (at key.Accesses) own.accesses i;
      users = texts_again (name_of key.Users) x.users d (at key.Users) own.users i;
      groups = texts_again (name_of key.Groups) x.groups d (at key.Groups) own.groups i;
      roles = texts_again (name_of key.Roles) x.roles d (at key.Roles) own.roles i;
      conditions = own_again condition_of condition_data IsCondition condition_again (name_of key.Conditions) x.conditions d (at key.Conditions) own.conditions i;
      delegate = bool_again false (name_of key.DelegateAdmin) x.delegate d (at key.DelegateAdmin) i;
      mask = mask_at_again (name_of key.DataMaskInfo) x.mask d (at key.DataMaskInfo) own.mask i;
      filter = filter_at_again (name_of key.RowFilterInfo) x.filter d (at key.RowFilterInfo) own.filter i;
    }

-- ---- the map of the levels

abbrev pub in_turn : List PolicyResource → Members
in_turn [] = no_members
in_turn (r ∷ rs) = member (encode_utf8_all r.level) (resource_data r) (in_turn rs)

first_put : (r : PolicyResource) (rs : List PolicyResource) → IsBefore r rs → put (encode_utf8_all r.level) (resource_data r) (in_turn rs) ≡ in_turn (r ∷ rs)
first_put r [] h = refl
first_put r (s ∷ rs) h = rw h refl

pub members_in_turn : (rs : List PolicyResource) → IsInOrder rs → level_members rs ≡ in_turn rs
members_in_turn [] h = refl
members_in_turn (r ∷ rs) h = ap (put (encode_utf8_all r.level) (resource_data r)) (members_in_turn rs h.1) ∙ first_put r rs h.0

resource_again : (r : PolicyResource) → IsResource r → policy_resource_of (encode_utf8_all r.level, resource_data r) ≡ r
unfolding policy_resource_of resource_data name_of
resource_again r own =
    let at = λ (k : Key). get_with name_of (name_of k) (resource_members r) no_members in
    let d = resource_data r in
    λ i. record {
      level = own.level i;
      values = texts_again (name_of key.Values) r.values d (at key.Values) own.values i;
      excludes = bool_again false (name_of key.IsExcludes) r.excludes d (at key.IsExcludes) i;
      recursive = bool_again false (name_of key.IsRecursive) r.recursive d (at key.IsRecursive) i;
    }

all_in_turn : (rs : List PolicyResource) → EachOf IsResource rs → map policy_resource_of (pairs_list (in_turn rs)) ≡ rs
all_in_turn [] all = refl
all_in_turn (r ∷ rs) all = ap₂ (λ x xs. x ∷ xs) (resource_again r all.0) (all_in_turn rs all.1)

map_of_again : (rs : Listed PolicyResource) → OwnResources rs → map_of policy_resource_of (resources_data rs) ≡ rs
unfolding map_of members_in resources_data
map_of_again rs own =
    ap (λ ms. listed (map policy_resource_of (pairs_list ms))) (members_in_turn rs.items own.ordered)
    ∙ ap (λ xs. listed xs) (all_in_turn rs.items own.each)
    ∙ sym own.whole

resources_again : (k : List ℕ) (rs : Listed PolicyResource) (d : Data) → get k d ≡ Some (resources_data rs) → OwnResources rs → map_at policy_resource_of k d ≡ rs
unfolding map_at within field resources_data
resources_again k rs d found own =
    ap (λ o. map_of policy_resource_of (unwrap_or (option_and_then unless_null o) null)) found ∙ map_of_again rs own

map_again : (m : ResourceMap) → IsMap m → resource_map_of (map_data m) ≡ m
unfolding resource_map_of map_data
map_again m own = λ i. record { levels = map_of_again m.levels own i }

-- ---- the policy

items_again : (k : List ℕ) (xs : Listed Item) (d : Data) → get k d ≡ Some (list_data item_data xs) → OwnList IsItem xs → list_at item_of k d ≡ xs
items_again k xs d found own = own_again item_of item_data IsItem item_again k xs d found own

pub policy_again : (p : Policy) → IsPolicy p → policy_of (policy_data p) ≡ p
unfolding policy_of policy_data name_of
policy_again p own =
    let at = λ (k : Key). get_with name_of (name_of k) (policy_members p) no_members in
    let d = policy_data p in
    λ i. record {
      id = record { 0 = integer_again (pos 0) (name_of key.Id) p.id.0 d (at key.Id) own.id i };
      guid = text_again (name_of key.Guid) p.guid d (at key.Guid) own.guid i;
      version = record { 0 = count_again 1 (name_of key.Version) p.version.0 d (at key.Version) i };
      service = text_again (name_of key.Service) p.service d (at key.Service) own.service i;
      name = text_again (name_of key.Name) p.name d (at key.Name) own.name i;
      policy_type = integer_again (pos 0) (name_of key.PolicyType) p.policy_type d (at key.PolicyType) own.policy_type i;
      priority = integer_again (pos 0) (name_of key.PolicyPriority) p.priority d (at key.PolicyPriority) own.priority i;
      resources = resources_again (name_of key.Resources) p.resources d (at key.Resources) own.resources i;
      additional = own_again resource_map_of map_data IsMap map_again (name_of key.AdditionalResources) p.additional d (at key.AdditionalResources) own.additional i;
      conditions = own_again condition_of condition_data IsCondition condition_again (name_of key.Conditions) p.conditions d (at key.Conditions) own.conditions i;
      items = items_again (name_of key.PolicyItems) p.items d (at key.PolicyItems) own.items i;
      deny_items = items_again (name_of key.DenyPolicyItems) p.deny_items d (at key.DenyPolicyItems) own.deny_items i;
      allow_exceptions = items_again (name_of key.AllowExceptions) p.allow_exceptions d (at key.AllowExceptions) own.allow_exceptions i;
      deny_exceptions = items_again (name_of key.DenyExceptions) p.deny_exceptions d (at key.DenyExceptions) own.deny_exceptions i;
      mask_items = items_again (name_of key.DataMaskPolicyItems) p.mask_items d (at key.DataMaskPolicyItems) own.mask_items i;
      filter_items = items_again (name_of key.RowFilterPolicyItems) p.filter_items d (at key.RowFilterPolicyItems) own.filter_items i;
      schedules = own_again schedule_of schedule_data IsSchedule schedule_again (name_of key.ValiditySchedules) p.schedules d (at key.ValiditySchedules) own.schedules i;
      zone = text_again (name_of key.ZoneName) p.zone d (at key.ZoneName) own.zone i;
      deny_all_else = bool_again false (name_of key.IsDenyAllElse) p.deny_all_else d (at key.IsDenyAllElse) i;
      enabled = bool_again true (name_of key.IsEnabled) p.enabled d (at key.IsEnabled) i;
      audited = bool_again true (name_of key.IsAuditEnabled) p.audited d (at key.IsAuditEnabled) i;
    }
