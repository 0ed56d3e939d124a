-- What is printed for the rows of the administration: definitions, roles, zones, tag rows and time zones.
use Rattle.std.specs.Prelude.{ℕ, List, [], ◌∷◌}
use Rattle.std.specs.Str.{encode_utf8_all}
use Rattle.serde_json.specs.Data.{Data, object, Members, no_members, put}
use Rattle.rg_base.specs.Listed.{Listed}
use Rattle.rg_base.specs.declared.pair.Pair.{Pair}
use Rattle.rg_policy.specs.declared.policy.TimeZoneRow.{TimeZoneRow}
use Rattle.rg_policy.specs.declared.tags.Tag.{Tag}
use Rattle.rg_defs.specs.declared.service_def.AccessType.{AccessType}
use Rattle.rg_defs.specs.declared.service_def.ConditionDef.{ConditionDef}
use Rattle.rg_defs.specs.declared.service_def.Level.{Level}
use Rattle.rg_defs.specs.declared.service_def.MaskType.{MaskType}
use Rattle.rg_defs.specs.declared.service_def.ServiceDef.{ServiceDef}
use Rattle.rg_roles.specs.declared.row.RoleRow.{RoleRow}
use Rattle.rg_tags.specs.declared.row.TagRow.{TagRow}
use Rattle.rg_zone_rules.specs.declared.row.ZoneLevel.{ZoneLevel}
use Rattle.rg_zone_rules.specs.declared.row.ZoneRow.{ZoneRow}
use Rattle.rg_zone_rules.specs.declared.row.ZoneService.{ZoneService}
use Rattle.rg_json.specs.Printing.{text_data, bool_data, integer_data, list_data}
use Rattle.rg_wire.specs.Printing.{resources_data}
use Rattle.rg_wire.specs.declared.key.Key.TheVariants as key
use Rattle.rg_cmd_wire.specs.PrintedNames.{object_of}
use Rattle.rg_cmd_wire.specs.declared.reply_key.ReplyKey.{ReplyKey}
use Rattle.rg_cmd_wire.specs.declared.reply_key.ReplyKey.TheVariants.{Wire}

-- ---- lists that came from maps

-- a member for each; of equal names the first is printed, since it is put last
abbrev pub named_members : {X : Type 0} → (X → List ℕ) → (X → Data) → List X → Members
named_members name print [] = no_members
named_members name print (x ∷ xs) = put (encode_utf8_all (name x)) (print x) (named_members name print xs)

unfoldable pub map_data : {X : Type 0} → (X → List ℕ) → (X → Data) → Listed X → Data
map_data name print xs = object (named_members name print xs.items)

-- the value of a pair, under its key
abbrev pub pair_data : Pair → Data
pair_data p = text_data p.value

unfoldable pub pairs_data : Listed Pair → Data
pairs_data ps = map_data (λ (p : Pair). p.key) pair_data ps

-- ---- service definitions

abbrev pub options_members : Level → List (ReplyKey × Data)
options_members l =
    (Wire key.WildCard, bool_data l.wild) ∷
    (Wire key.IgnoreCase, bool_data l.fold) ∷ []

-- the matcher options, as one map within another
unfoldable pub options_data : Level → Data
options_data l = object_of (options_members l)

abbrev pub level_members : Level → List (ReplyKey × Data)
level_members l =
    (Wire key.Name, text_data l.name) ∷
    (Wire key.Level, integer_data l.level) ∷
    (Wire key.Parent, text_data l.parent) ∷
    (Wire key.Mandatory, bool_data l.mandatory) ∷
    (Wire key.RecursiveSupported, bool_data l.recursive) ∷
    (Wire key.ExcludesSupported, bool_data l.excludes) ∷
    (Wire key.MatcherOptions, options_data l) ∷ []

unfoldable pub level_data : Level → Data
level_data l = object_of (level_members l)

abbrev pub access_type_members : AccessType → List (ReplyKey × Data)
access_type_members a =
    (Wire key.Name, text_data a.name) ∷
    (Wire key.ImpliedGrants, list_data text_data a.implied) ∷ []

unfoldable pub access_type_data : AccessType → Data
access_type_data a = object_of (access_type_members a)

abbrev pub condition_def_members : ConditionDef → List (ReplyKey × Data)
condition_def_members c =
    (Wire key.Name, text_data c.name) ∷
    (Wire key.Evaluator, text_data c.evaluator) ∷
    (Wire key.EvaluatorOptions, pairs_data c.options) ∷ []

unfoldable pub condition_def_data : ConditionDef → Data
condition_def_data c = object_of (condition_def_members c)

abbrev pub mask_type_members : MaskType → List (ReplyKey × Data)
mask_type_members m =
    (Wire key.Name, text_data m.name) ∷
    (Wire key.Transformer, text_data m.transformer) ∷ []

unfoldable pub mask_type_data : MaskType → Data
mask_type_data m = object_of (mask_type_members m)

abbrev pub name_members : List ℕ → List (ReplyKey × Data)
name_members name = (Wire key.Name, text_data name) ∷ []

-- what is kept by its name alone
unfoldable pub named_data : List ℕ → Data
named_data name = object_of (name_members name)

abbrev pub mask_part_members : ServiceDef → List (ReplyKey × Data)
mask_part_members d =
    (Wire key.MaskTypes, list_data mask_type_data d.masks) ∷
    (Wire key.AccessTypes, list_data named_data d.mask_access) ∷
    (Wire key.Resources, list_data named_data d.mask_levels) ∷ []

-- the data mask part
unfoldable pub mask_part_data : ServiceDef → Data
mask_part_data d = object_of (mask_part_members d)

abbrev pub filter_part_members : ServiceDef → List (ReplyKey × Data)
filter_part_members d =
    (Wire key.AccessTypes, list_data named_data d.filter_access) ∷
    (Wire key.Resources, list_data named_data d.filter_levels) ∷ []

-- the row filter part
unfoldable pub filter_part_data : ServiceDef → Data
filter_part_data d = object_of (filter_part_members d)

abbrev pub def_members : ServiceDef → List (ReplyKey × Data)
def_members d =
    (Wire key.Name, text_data d.name) ∷
    (Wire key.Resources, list_data level_data d.levels) ∷
    (Wire key.AccessTypes, list_data access_type_data d.access_types) ∷
    (Wire key.PolicyConditions, list_data condition_def_data d.conditions) ∷
    (Wire key.DataMaskDef, mask_part_data d) ∷
    (Wire key.RowFilterDef, filter_part_data d) ∷ []

unfoldable pub def_data : ServiceDef → Data
def_data d = object_of (def_members d)

-- ---- roles

abbrev pub role_members : RoleRow → List (ReplyKey × Data)
role_members r =
    (Wire key.Name, text_data r.name) ∷
    (Wire key.Users, list_data text_data r.users) ∷
    (Wire key.Groups, list_data text_data r.groups) ∷
    (Wire key.Roles, list_data text_data r.roles) ∷ []

unfoldable pub role_data : RoleRow → Data
role_data r = object_of (role_members r)

-- ---- zones

-- the values of a level, under its name
abbrev pub zone_level_data : ZoneLevel → Data
zone_level_data l = list_data text_data l.values

-- one resource map
unfoldable pub zone_map_data : Listed ZoneLevel → Data
zone_map_data ls = map_data (λ (l : ZoneLevel). l.level) zone_level_data ls

abbrev pub zone_service_members : ZoneService → List (ReplyKey × Data)
zone_service_members s = (Wire key.Resources, list_data zone_map_data s.resources) ∷ []

-- the resources of a service, under its name
unfoldable pub zone_service_data : ZoneService → Data
zone_service_data s = object_of (zone_service_members s)

abbrev pub zone_members : ZoneRow → List (ReplyKey × Data)
zone_members z =
    (Wire key.Name, text_data z.name) ∷
    (Wire key.Services, map_data (λ (s : ZoneService). s.service) zone_service_data z.services) ∷
    (Wire key.TagServices, list_data text_data z.tag_services) ∷
    (Wire key.AdminUsers, list_data text_data z.admins.users) ∷
    (Wire key.AdminUserGroups, list_data text_data z.admins.groups) ∷
    (Wire key.AdminRoles, list_data text_data z.admins.roles) ∷
    (Wire key.AuditUsers, list_data text_data z.auditors.users) ∷
    (Wire key.AuditUserGroups, list_data text_data z.auditors.groups) ∷
    (Wire key.AuditRoles, list_data text_data z.auditors.roles) ∷ []

unfoldable pub zone_data : ZoneRow → Data
zone_data z = object_of (zone_members z)

-- ---- tag rows

abbrev pub tag_members : Tag → List (ReplyKey × Data)
tag_members t =
    (Wire key.Type, text_data t.kind) ∷
    (Wire key.Attributes, pairs_data t.attributes) ∷ []

unfoldable pub tag_data : Tag → Data
tag_data t = object_of (tag_members t)

abbrev pub tag_row_members : TagRow → List (ReplyKey × Data)
tag_row_members r =
    (Wire key.Id, integer_data r.id) ∷
    (Wire key.ServiceName, text_data r.service) ∷
    (Wire key.ResourceElements, resources_data r.resources) ∷
    (Wire key.Tags, list_data tag_data r.tags) ∷ []

unfoldable pub tag_row_data : TagRow → Data
tag_row_data r = object_of (tag_row_members r)

-- ---- time zones

abbrev pub time_zone_members : TimeZoneRow → List (ReplyKey × Data)
time_zone_members t =
    (Wire key.Name, text_data t.name) ∷
    (Wire key.Rule, text_data t.rule) ∷ []

unfoldable pub time_zone_data : TimeZoneRow → Data
time_zone_data t = object_of (time_zone_members t)
