-- Asks in key order: the lists that JSON keeps as maps stand in byte order of distinct keys. As in each ask that was read, texts
-- are characters, integers fit, and lists have no spare place.
use Rattle.std.specs.Prelude.{◌≡◌, ℕ, List, [], ◌∷◌}
use Rattle.std.specs.Str.{encode_utf8_all}
use Rattle.std.specs.Ordering.{nat_cmp}
use Rattle.std.specs.declared.cmp.Ordering.TheVariants.{Less}
use Rattle.std.specs.Cmp.Lexicographic.{slice_cmp}
use Rattle.rg_base.specs.Listed.{Listed, listed}
use Rattle.rg_base.specs.declared.pair.Pair.{Pair}
use Rattle.rg_cmd.specs.declared.ask.AdminCommand.{AdminCommand}
use Rattle.rg_cmd.specs.declared.ask.AdminCommand.TheVariants.{PutDef, CreateService, UpdateService, DeleteService, CreatePolicy, UpdatePolicy, DeletePolicy, GetPolicy, ListPolicies, PutRole, DeleteRole, PutZone, DeleteZone, PutTags, DeleteTags, PutUser, DeleteUser, Download}
use Rattle.rg_cmd.specs.declared.ask.Ask.{Ask}
use Rattle.rg_cmd.specs.declared.state.ServiceRow.{ServiceRow}
use Rattle.rg_cmd.specs.declared.state.UserRow.{UserRow}
use Rattle.rg_defs.specs.declared.service_def.AccessType.{AccessType}
use Rattle.rg_defs.specs.declared.service_def.ConditionDef.{ConditionDef}
use Rattle.rg_defs.specs.declared.service_def.Level.{Level}
use Rattle.rg_defs.specs.declared.service_def.MaskType.{MaskType}
use Rattle.rg_defs.specs.declared.service_def.ServiceDef.{ServiceDef}
use Rattle.rg_json.specs.Own.{IsText, IsInteger, EachOf, OwnList}
use Rattle.rg_policy.specs.declared.tags.Tag.{Tag}
use Rattle.rg_roles.specs.declared.row.RoleRow.{RoleRow}
use Rattle.rg_tags.specs.declared.row.TagRow.{TagRow}
use Rattle.rg_wire.specs.Own.{IsPolicy, OwnResources}
use Rattle.rg_zone_rules.specs.declared.row.Subjects.{Subjects}
use Rattle.rg_zone_rules.specs.declared.row.ZoneLevel.{ZoneLevel}
use Rattle.rg_zone_rules.specs.declared.row.ZoneRow.{ZoneRow}
use Rattle.rg_zone_rules.specs.declared.row.ZoneService.{ZoneService}

-- ---- lists that are maps

-- the key is before that of the first
abbrev pub IsBeforeAll : {X : Type 0} → (X → List ℕ) → X → List X → Type 0
IsBeforeAll name x [] = Unit {0}
IsBeforeAll name x (y ∷ ys) = slice_cmp nat_cmp (encode_utf8_all (name x)) (encode_utf8_all (name y)) ≡ Less

abbrev pub AreInOrder : {X : Type 0} → (X → List ℕ) → List X → Type 0
AreInOrder name [] = Unit {0}
AreInOrder name (x ∷ xs) = IsBeforeAll name x xs × AreInOrder name xs

-- each item is as it should be, and they are in byte order of distinct keys
abbrev pub OwnMap : {X : Type 0} → (X → List ℕ) → (X → Type 0) → Listed X → Type 0
OwnMap name own xs = record { each : EachOf own xs.items; ordered : AreInOrder name xs.items; whole : xs ≡ listed xs.items }

abbrev pub IsPair : Pair → Type 0
IsPair p = record { key : IsText p.key; value : IsText p.value }

abbrev pub OwnPairs : Listed Pair → Type 0
OwnPairs ps = OwnMap (λ (p : Pair). p.key) IsPair ps

-- ---- definitions, services, users

abbrev pub IsLevel : Level → Type 0
IsLevel l = record { name : IsText l.name; level : IsInteger l.level; parent : IsText l.parent }

abbrev pub IsAccessType : AccessType → Type 0
IsAccessType a = record { name : IsText a.name; implied : OwnList IsText a.implied }

abbrev pub IsConditionDef : ConditionDef → Type 0
IsConditionDef c = record { name : IsText c.name; evaluator : IsText c.evaluator; options : OwnPairs c.options }

abbrev pub IsMaskType : MaskType → Type 0
IsMaskType m = record { name : IsText m.name; transformer : IsText m.transformer }

abbrev pub IsDef : ServiceDef → Type 0
IsDef d = record {
  name : IsText d.name;
  levels : OwnList IsLevel d.levels;
  access_types : OwnList IsAccessType d.access_types;
  conditions : OwnList IsConditionDef d.conditions;
  masks : OwnList IsMaskType d.masks;
  mask_access : OwnList IsText d.mask_access;
  mask_levels : OwnList IsText d.mask_levels;
  filter_access : OwnList IsText d.filter_access;
  filter_levels : OwnList IsText d.filter_levels;
}

abbrev pub IsService : ServiceRow → Type 0
IsService s = record { name : IsText s.name; def : IsText s.def; tag_service : IsText s.tag_service }

abbrev pub IsUser : UserRow → Type 0
IsUser u = record { name : IsText u.name; groups : OwnList IsText u.groups }

-- ---- roles, zones, tag rows

abbrev pub IsRole : RoleRow → Type 0
IsRole r = record { name : IsText r.name; users : OwnList IsText r.users; groups : OwnList IsText r.groups; roles : OwnList IsText r.roles }

abbrev pub IsZoneLevel : ZoneLevel → Type 0
IsZoneLevel l = record { level : IsText l.level; values : OwnList IsText l.values }

abbrev pub OwnLevels : Listed ZoneLevel → Type 0
OwnLevels ls = OwnMap (λ (l : ZoneLevel). l.level) IsZoneLevel ls

abbrev pub IsZoneService : ZoneService → Type 0
IsZoneService s = record { service : IsText s.service; resources : OwnList OwnLevels s.resources }

abbrev pub AreSubjects : Subjects → Type 0
AreSubjects s = record { users : OwnList IsText s.users; groups : OwnList IsText s.groups; roles : OwnList IsText s.roles }

abbrev pub IsZone : ZoneRow → Type 0
IsZone z = record {
  name : IsText z.name;
  services : OwnMap (λ (s : ZoneService). s.service) IsZoneService z.services;
  tag_services : OwnList IsText z.tag_services;
  admins : AreSubjects z.admins;
  auditors : AreSubjects z.auditors;
}

abbrev pub IsTag : Tag → Type 0
IsTag t = record { kind : IsText t.kind; attributes : OwnPairs t.attributes }

abbrev pub IsTagRow : TagRow → Type 0
IsTagRow r = record { id : IsInteger r.id; service : IsText r.service; resources : OwnResources r.resources; tags : OwnList IsTag r.tags }

-- ---- commands

unfoldable pub IsCommandInOrder : AdminCommand → Type 0
IsCommandInOrder (PutDef def) = IsDef def
IsCommandInOrder (CreateService service) = IsService service
IsCommandInOrder (UpdateService service) = IsService service
IsCommandInOrder (DeleteService name) = IsText name
IsCommandInOrder (CreatePolicy policy) = IsPolicy policy
IsCommandInOrder (UpdatePolicy policy) = IsPolicy policy
IsCommandInOrder (DeletePolicy id) = IsInteger id.0
IsCommandInOrder (GetPolicy id) = IsInteger id.0
IsCommandInOrder (ListPolicies service) = IsText service
IsCommandInOrder (PutRole role) = IsRole role
IsCommandInOrder (DeleteRole name) = IsText name
IsCommandInOrder (PutZone zone) = IsZone zone
IsCommandInOrder (DeleteZone name) = IsText name
IsCommandInOrder (PutTags id row) = IsInteger id × IsTagRow row
IsCommandInOrder (DeleteTags id) = IsInteger id
IsCommandInOrder (PutUser user) = IsUser user
IsCommandInOrder (DeleteUser name) = IsText name
IsCommandInOrder (Download service policies_from tags_from roles_from) = IsText service

unfoldable pub IsInKeyOrder : Ask → Type 0
IsInKeyOrder a = record { actor : IsText a.actor; command : IsCommandInOrder a.command }
