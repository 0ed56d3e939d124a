-- Policies and facts that were read from JSON that is in order are in key order.
use Rattle.std.proofs.Common.{◌≡◌, ℕ, List, Option, Some, None, IfSome, Result, Ok, Err, option_map, refl, sym, subst}
use Rattle.serde_json.specs.Data.{Data}
use Rattle.rg_facts.specs.declared.facts.Facts.{Facts}
use Rattle.rg_json.specs.declared.fault.Fault.{Fault}
use Rattle.rg_json.specs.Fields.{field, list_at, map_at, optional_at, text_of}
use Rattle.rg_json.specs.Faults.{fault_of}
use Rattle.rg_json.specs.Own.{IsText, OwnList, OwnOption}
use Rattle.rg_json.specs.Reading.{reading_of, unless_fault}
use Rattle.rg_wire.specs.declared.key.Key.{Key}
use Rattle.rg_wire.specs.declared.key.Key.TheVariants as key
use Rattle.rg_wire.specs.Names.{name_of}
use Rattle.rg_wire.specs.Own.{IsCondition, IsEntry, IsItem, IsMap, IsMask, IsPolicy, IsSchedule}
use Rattle.rg_wire.specs.Records.{condition_of, entry_of, facts_of, item_of, mask_of, policy_of, resource_map_of, role_of, schedule_of, service_def_of, tag_row_for, tag_row_of, time_zone_of, zone_of}
use Rattle.rg_wire.specs.Shapes.{facts_shape}
use Rattle.rg_ask_wire.specs.KeyOrder.{IsDef, IsRole, IsZone}
use Rattle.rg_ask_wire.specs.Orderly.{IsOrderly}
use Rattle.rg_ask_wire.proofs.InOrder.{Found, field_found, integer_own, list_own, text_at_own, text_own, within_orderly}
use Rattle.rg_ask_wire.proofs.Owned.{def_own, resources_own, role_own, tag_row_own, zone_own}
use Rattle.rg_download_wire.specs.InOrder.{AreFacts, IsRowOf, IsTimeZone}

-- ---- parts

texts_own : (k : List ℕ) (d : Data) → IsOrderly d → OwnList IsText (list_at text_of k d)
texts_own k d is = list_own IsText text_of text_own k d is

module _ {X : Type 0} (own : X → Type 0) where
  found_own : (read : Data → X) → ((d : Data) → IsOrderly d → own (read d)) → (o : Option Data) → Found o → OwnOption own (option_map read o)
  found_own read f None is = tt
  found_own read f (Some d) is = f d is

  pub option_own : (read : Data → X) → ((d : Data) → IsOrderly d → own (read d)) → (k : List ℕ) (d : Data) → IsOrderly d → OwnOption own (optional_at read k d)
  unfolding optional_at
  option_own read f k d is = found_own read f (field k d) (field_found k d is)

-- ---- policies

entry_own : (d : Data) → IsOrderly d → IsEntry (entry_of d)
unfolding entry_of
entry_own d is = text_at_own (name_of key.Type) d is

condition_own : (d : Data) → IsOrderly d → IsCondition (condition_of d)
unfolding condition_of
condition_own d is = record { name = text_at_own (name_of key.Type) d is; values = texts_own (name_of key.Values) d is }

mask_own : (d : Data) → IsOrderly d → IsMask (mask_of d)
unfolding mask_of
mask_own d is = record {
  kind = text_at_own (name_of key.DataMaskType) d is;
  condition = text_at_own (name_of key.ConditionExpr) d is;
  value = text_at_own (name_of key.ValueExpr) d is;
}

schedule_own : (d : Data) → IsOrderly d → IsSchedule (schedule_of d)
unfolding schedule_of
schedule_own d is = record {
  start = text_at_own (name_of key.StartTime) d is;
  end = text_at_own (name_of key.EndTime) d is;
  zone = text_at_own (name_of key.TimeZone) d is;
}

item_own : (d : Data) → IsOrderly d → IsItem (item_of d)
unfolding item_of
item_own d is = record {
  accesses = list_own IsEntry entry_of entry_own (name_of key.Accesses) d is;
  users = texts_own (name_of key.Users) d is;
  groups = texts_own (name_of key.Groups) d is;
  roles = texts_own (name_of key.Roles) d is;
  conditions = list_own IsCondition condition_of condition_own (name_of key.Conditions) d is;
  mask = option_own IsMask mask_of mask_own (name_of key.DataMaskInfo) d is;
  filter = option_own IsText text_of text_own (name_of key.FilterExpr) _ (within_orderly (name_of key.RowFilterInfo) d is);
}

levels_own : (d : Data) → IsOrderly d → IsMap (resource_map_of d)
unfolding resource_map_of
levels_own d is = resources_own d is

items_own : (k : Key) (d : Data) → IsOrderly d → OwnList IsItem (list_at item_of (name_of k) d)
items_own k d is = list_own IsItem item_of item_own (name_of k) d is

pub policy_own : (d : Data) → IsOrderly d → IsPolicy (policy_of d)
unfolding policy_of map_at
policy_own d is = record {
  id = integer_own (name_of key.Id) d is;
  guid = text_at_own (name_of key.Guid) d is;
  service = text_at_own (name_of key.Service) d is;
  name = text_at_own (name_of key.Name) d is;
  policy_type = integer_own (name_of key.PolicyType) d is;
  priority = integer_own (name_of key.PolicyPriority) d is;
  resources = resources_own _ (within_orderly (name_of key.Resources) d is);
  additional = list_own IsMap resource_map_of levels_own (name_of key.AdditionalResources) d is;
  conditions = list_own IsCondition condition_of condition_own (name_of key.Conditions) d is;
  items = items_own key.PolicyItems d is;
  deny_items = items_own key.DenyPolicyItems d is;
  allow_exceptions = items_own key.AllowExceptions d is;
  deny_exceptions = items_own key.DenyExceptions d is;
  mask_items = items_own key.DataMaskPolicyItems d is;
  filter_items = items_own key.RowFilterPolicyItems d is;
  schedules = list_own IsSchedule schedule_of schedule_own (name_of key.ValiditySchedules) d is;
  zone = text_at_own (name_of key.ZoneName) d is;
}

-- ---- facts

pub time_zone_own : (d : Data) → IsOrderly d → IsTimeZone (time_zone_of d)
unfolding time_zone_of
time_zone_own d is = record { name = text_at_own (name_of key.Name) d is; rule = text_at_own (name_of key.Rule) d is }

row_own : (service : List ℕ) → IsText service → (d : Data) → IsOrderly d → IsRowOf service (tag_row_for service d)
unfolding tag_row_of tag_row_for
row_own service text d is =
    let row = tag_row_own d is in
    record { own = record { id = row.id; service = text; resources = row.resources; tags = row.tags }; service = refl }

facts_own : (d : Data) → IsOrderly d → AreFacts (facts_of d)
unfolding facts_of AreFacts
facts_own d is =
    let service = text_at_own (name_of key.Service) d is in
    record {
      service = service;
      def = def_own _ (within_orderly (name_of key.ServiceDef) d is);
      tag_def = option_own IsDef service_def_of def_own (name_of key.TagServiceDef) d is;
      policies = list_own IsPolicy policy_of policy_own (name_of key.Policies) d is;
      tag_policies = list_own IsPolicy policy_of policy_own (name_of key.TagPolicies) d is;
      zones = list_own IsZone zone_of zone_own (name_of key.Zones) d is;
      roles = list_own IsRole role_of role_own (name_of key.Roles) d is;
      tag_rows = list_own (IsRowOf _) (tag_row_for _) (row_own _ service) (name_of key.Resources) d is;
      time_zones = list_own IsTimeZone time_zone_of time_zone_own (name_of key.TimeZones) d is;
    }

-- ---- texts

abbrev pub IsGiven : {X : Type 0} → X → Result X Fault → Type 0
IsGiven x (Ok y) = y ≡ x
IsGiven x (Err fault) = ⊥

given : (f : Facts) (d : Data) (o : Option Fault) → AreFacts (facts_of d) → IsGiven f (unless_fault (facts_of d) o) → AreFacts f
given f d None is same = subst AreFacts same is
given f d (Some fault) is same = absurd same

-- facts that were read from JSON that is in order are in key order
pub facts_in_order : (json : Option Data) → IfSome json IsOrderly → (f : Facts) → reading_of facts_shape facts_of json ≡ Ok f → AreFacts f
facts_in_order None is f read = absurd (subst (IsGiven f) (sym read) refl)
facts_in_order (Some d) is f read = given f d (fault_of facts_shape d) (facts_own d is) (subst (IsGiven f) (sym read) refl)
