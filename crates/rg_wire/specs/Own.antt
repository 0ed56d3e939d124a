-- What is true of each policy that was read: its texts are characters, its integers fit, its lists have no spare place, and its
-- levels stand in byte order.
use Rattle.std.specs.Prelude.{◌≡◌, List, [], ◌∷◌}
use Rattle.std.specs.Str.{encode_utf8_all}
use Rattle.std.specs.Ordering.{nat_cmp}
use Rattle.std.specs.declared.cmp.Ordering.TheVariants.{Less}
use Rattle.std.specs.Cmp.Lexicographic.{slice_cmp}
use Rattle.rg_base.specs.Listed.{Listed, listed}
use Rattle.rg_json.specs.Own.{IsText, IsInteger, EachOf, OwnList, OwnOption}
use Rattle.rg_policy.specs.declared.policy.AccessEntry.{AccessEntry}
use Rattle.rg_policy.specs.declared.policy.PolicyCondition.{PolicyCondition}
use Rattle.rg_policy.specs.declared.policy.MaskInfo.{MaskInfo}
use Rattle.rg_policy.specs.declared.policy.ScheduleText.{ScheduleText}
use Rattle.rg_policy.specs.declared.policy.Item.{Item}
use Rattle.rg_policy.specs.declared.policy.PolicyResource.{PolicyResource}
use Rattle.rg_policy.specs.declared.policy.ResourceMap.{ResourceMap}
use Rattle.rg_policy.specs.declared.policy.Policy.{Policy}

abbrev pub IsEntry : AccessEntry → Type 0
IsEntry e = IsText e.access

abbrev pub IsCondition : PolicyCondition → Type 0
IsCondition c = record { name : IsText c.name; values : OwnList IsText c.values }

abbrev pub IsMask : MaskInfo → Type 0
IsMask m = record { kind : IsText m.kind; condition : IsText m.condition_expr; value : IsText m.value_expr }

abbrev pub IsSchedule : ScheduleText → Type 0
IsSchedule s = record { start : IsText s.start_time; end : IsText s.end_time; zone : IsText s.time_zone }

abbrev pub IsItem : Item → Type 0
IsItem i = record {
  accesses : OwnList IsEntry i.accesses;
  users : OwnList IsText i.users;
  groups : OwnList IsText i.groups;
  roles : OwnList IsText i.roles;
  conditions : OwnList IsCondition i.conditions;
  mask : OwnOption IsMask i.mask;
  filter : OwnOption IsText i.filter;
}

abbrev pub IsResource : PolicyResource → Type 0
IsResource r = record { level : IsText r.level; values : OwnList IsText r.values }

-- the level is before that of the first
abbrev pub IsBefore : PolicyResource → List PolicyResource → Type 0
IsBefore r [] = Unit {0}
IsBefore r (s ∷ rs) = slice_cmp nat_cmp (encode_utf8_all r.level) (encode_utf8_all s.level) ≡ Less

abbrev pub IsInOrder : List PolicyResource → Type 0
IsInOrder [] = Unit {0}
IsInOrder (r ∷ rs) = IsBefore r rs × IsInOrder rs

abbrev pub OwnResources : Listed PolicyResource → Type 0
OwnResources rs = record { each : EachOf IsResource rs.items; ordered : IsInOrder rs.items; whole : rs ≡ listed rs.items }

abbrev pub IsMap : ResourceMap → Type 0
IsMap m = OwnResources m.levels

abbrev pub IsPolicy : Policy → Type 0
IsPolicy p = record {
  id : IsInteger p.id.0;
  guid : IsText p.guid;
  service : IsText p.service;
  name : IsText p.name;
  policy_type : IsInteger p.policy_type;
  priority : IsInteger p.priority;
  resources : OwnResources p.resources;
  additional : OwnList IsMap p.additional;
  conditions : OwnList IsCondition p.conditions;
  items : OwnList IsItem p.items;
  deny_items : OwnList IsItem p.deny_items;
  allow_exceptions : OwnList IsItem p.allow_exceptions;
  deny_exceptions : OwnList IsItem p.deny_exceptions;
  mask_items : OwnList IsItem p.mask_items;
  filter_items : OwnList IsItem p.filter_items;
  schedules : OwnList IsSchedule p.schedules;
  zone : IsText p.zone;
}
