-- Rows that were printed are read again as themselves.
use Rattle.std.proofs.Common.{◌≡◌, ℕ, pos, List, [], ◌∷◌, map, Option, Some, option_and_then, unwrap_or, Bool, true, false, refl, sym, ap, ◌∙◌}
use Rattle.std.specs.Str.{encode_utf8_all}
use Rattle.serde_json.specs.Data.{Data, null, object, no_members, put}
use Rattle.serde_json.specs.Find.{get}
use Rattle.rg_base.specs.Listed.{Listed, listed}
use Rattle.rg_base.specs.declared.pair.Pair.{Pair}
use Rattle.rg_cmd.specs.declared.state.ServiceRow.{ServiceRow}
use Rattle.rg_cmd.specs.declared.state.UserRow.{UserRow}
use Rattle.rg_defs.specs.declared.service_def.AccessType.{AccessType}
use Rattle.rg_defs.specs.declared.service_def.ConditionDef.{ConditionDef}
use Rattle.rg_defs.specs.declared.service_def.Level.{Level}
use Rattle.rg_defs.specs.declared.service_def.MaskType.{MaskType}
use Rattle.rg_defs.specs.declared.service_def.ServiceDef.{ServiceDef}
use Rattle.rg_json.specs.Fields.{field, unless_null, text_of, text_or_at, truth_word_at, truth_word_of, within, list_at, list_of, map_of, map_at, items_in}
use Rattle.rg_json.specs.Own.{IsText, OwnList}
use Rattle.rg_json.specs.Printing.{text_data, bool_data, list_data}
use Rattle.rg_json.proofs.Again.{get_with, text_again, text_of_again, bool_again, own_again, each_again, texts_again, integer_again}
use Rattle.rg_json.proofs.Views.{data_list-of}
use Rattle.rg_policy.specs.declared.policy.PolicyResource.{PolicyResource}
use Rattle.rg_policy.specs.declared.tags.Tag.{Tag}
use Rattle.rg_roles.specs.declared.row.RoleRow.{RoleRow}
use Rattle.rg_tags.specs.declared.row.TagRow.{TagRow}
use Rattle.rg_zone_rules.specs.declared.row.ZoneLevel.{ZoneLevel}
use Rattle.rg_zone_rules.specs.declared.row.ZoneRow.{ZoneRow}
use Rattle.rg_zone_rules.specs.declared.row.ZoneService.{ZoneService}
use Rattle.rg_wire.specs.declared.key.Key.{Key}
use Rattle.rg_wire.specs.declared.key.Key.TheVariants as key
use Rattle.rg_wire.specs.Fields.{member_name}
use Rattle.rg_wire.specs.Names.{name_of}
use Rattle.rg_wire.specs.Own.{IsResource, IsInOrder, OwnResources}
use Rattle.rg_wire.specs.Printing.{resource_data, resource_members, resources_data, level_members as put_levels}
use Rattle.rg_wire.specs.Records.{access_type_of, condition_def_of, level_of, mask_type_of, pair_of, policy_resource_of, role_of, service_def_of, subjects_of, tag_of, tag_row_for, tag_row_of, zone_level_of, zone_of, zone_service_of}
use Rattle.rg_cmd_wire.specs.PrintedNames.{name_of as printed_name}
use Rattle.rg_cmd_wire.specs.PrintedRows.{access_type_data, access_type_members, condition_def_data, condition_def_members, def_data, def_members, filter_part_data, filter_part_members, level_data, level_members, map_data, mask_part_data, mask_part_members, mask_type_data, mask_type_members, name_members, named_data, named_members, options_data, options_members, pair_data, pairs_data, role_data, role_members, tag_data, tag_members, tag_row_data, tag_row_members, zone_data, zone_level_data, zone_map_data, zone_members, zone_service_data, zone_service_members}
use Rattle.rg_cmd_wire.specs.Rows.{service_of, user_of}
use Rattle.rg_ask_wire.specs.Asks.{service_data, service_members, user_data, user_members}
use Rattle.rg_ask_wire.specs.KeyOrder.{AreInOrder, IsAccessType, IsConditionDef, IsDef, IsLevel, IsMaskType, IsPair, IsRole, IsService, IsTag, IsTagRow, IsUser, IsZone, IsZoneLevel, IsZoneService, OwnLevels, OwnMap, OwnPairs}
use Rattle.rg_ask_wire.proofs.Maps.{map_at_again, map_of_again}

-- ---- parts

pub within_again : (k : List ℕ) (v d : Data) → get k d ≡ Some v → unless_null v ≡ Some v → within k d ≡ v
unfolding within field
within_again k v d found there = ap (λ o. unwrap_or (option_and_then unless_null o) null) found ∙ ap (λ o. unwrap_or o null) there

truth_again : (usual : Bool) (k : List ℕ) (b : Bool) (d : Data) → get k d ≡ Some (bool_data b) → truth_word_at usual k d ≡ b
unfolding truth_word_at truth_word_of field
truth_again usual k b d found = ap (λ o. unwrap_or (option_and_then truth_word_of (option_and_then unless_null o)) usual) found

-- a name that was printed as a text
name_again : (t : List ℕ) → IsText t → member_name (text_data t) ≡ t
unfolding text_or_at text_of text_data
name_again t own = own

names_again : (k : List ℕ) (ts : Listed (List ℕ)) (d : Data) → get k d ≡ Some (list_data text_data ts) → OwnList IsText ts → list_at member_name k d ≡ ts
names_again k ts d found own = own_again member_name text_data IsText name_again k ts d found own

-- and one that was printed in a map
named_again : (t : List ℕ) → IsText t → member_name (named_data t) ≡ t
unfolding text_or_at named_data name_of printed_name
named_again t own = text_again (name_of key.Name) t (named_data t) (get_with printed_name (name_of key.Name) (name_members t) no_members) own

named_list_again : (k : List ℕ) (ts : Listed (List ℕ)) (d : Data) → get k d ≡ Some (list_data named_data ts) → OwnList IsText ts → list_at member_name k d ≡ ts
named_list_again k ts d found own = own_again member_name named_data IsText named_again k ts d found own

pair_again : (p : Pair) → IsPair p → pair_of (encode_utf8_all p.key, pair_data p) ≡ p
unfolding pair_of text_of text_data
pair_again p own = λ i. record { key = own.key i; value = own.value i }

pairs_again : (k : List ℕ) (ps : Listed Pair) (d : Data) → get k d ≡ Some (pairs_data ps) → OwnPairs ps → map_at pair_of k d ≡ ps
unfolding pairs_data
pairs_again k ps d found own = map_at_again (λ (p : Pair). p.key) pair_data IsPair pair_of pair_again k ps d found own

-- ---- service definitions

access_type_again : (a : AccessType) → IsAccessType a → access_type_of (access_type_data a) ≡ a
unfolding access_type_of access_type_data name_of printed_name
access_type_again a own =
    let at = λ (k : Key). get_with printed_name (name_of k) (access_type_members a) no_members in
    let d = access_type_data a in
    λ i. record {
      name = text_again (name_of key.Name) a.name d (at key.Name) own.name i;
      implied = texts_again (name_of key.ImpliedGrants) a.implied d (at key.ImpliedGrants) own.implied i;
    }

condition_def_again : (c : ConditionDef) → IsConditionDef c → condition_def_of (condition_def_data c) ≡ c
unfolding condition_def_of condition_def_data name_of printed_name
condition_def_again c own =
    let at = λ (k : Key). get_with printed_name (name_of k) (condition_def_members c) no_members in
    let d = condition_def_data c in
    λ i. record {
      name = text_again (name_of key.Name) c.name d (at key.Name) own.name i;
      evaluator = text_again (name_of key.Evaluator) c.evaluator d (at key.Evaluator) own.evaluator i;
      options = pairs_again (name_of key.EvaluatorOptions) c.options d (at key.EvaluatorOptions) own.options i;
    }

mask_type_again : (m : MaskType) → IsMaskType m → mask_type_of (mask_type_data m) ≡ m
unfolding mask_type_of mask_type_data name_of printed_name
mask_type_again m own =
    let at = λ (k : Key). get_with printed_name (name_of k) (mask_type_members m) no_members in
    let d = mask_type_data m in
    λ i. record {
      name = text_again (name_of key.Name) m.name d (at key.Name) own.name i;
      transformer = text_again (name_of key.Transformer) m.transformer d (at key.Transformer) own.transformer i;
    }

options_there : (l : Level) → unless_null (options_data l) ≡ Some (options_data l)
unfolding options_data
options_there l = refl

wild_again : (l : Level) → truth_word_at true (name_of key.WildCard) (options_data l) ≡ l.wild
unfolding options_data name_of printed_name
wild_again l = truth_again true (name_of key.WildCard) l.wild (options_data l) (get_with printed_name (name_of key.WildCard) (options_members l) no_members)

fold_again : (l : Level) → truth_word_at true (name_of key.IgnoreCase) (options_data l) ≡ l.fold
unfolding options_data name_of printed_name
fold_again l = truth_again true (name_of key.IgnoreCase) l.fold (options_data l) (get_with printed_name (name_of key.IgnoreCase) (options_members l) no_members)

level_again : (l : Level) → IsLevel l → level_of (level_data l) ≡ l
unfolding level_of level_data name_of printed_name
level_again l own =
    let at = λ (k : Key). get_with printed_name (name_of k) (level_members l) no_members in
    let d = level_data l in
    let options = within_again (name_of key.MatcherOptions) (options_data l) d (at key.MatcherOptions) (options_there l) in
    λ i. record {
      name = text_again (name_of key.Name) l.name d (at key.Name) own.name i;
      level = integer_again (pos 0) (name_of key.Level) l.level d (at key.Level) own.level i;
      parent = text_again (name_of key.Parent) l.parent d (at key.Parent) own.parent i;
      mandatory = bool_again false (name_of key.Mandatory) l.mandatory d (at key.Mandatory) i;
      recursive = bool_again false (name_of key.RecursiveSupported) l.recursive d (at key.RecursiveSupported) i;
      excludes = bool_again false (name_of key.ExcludesSupported) l.excludes d (at key.ExcludesSupported) i;
      wild = (ap (truth_word_at true (name_of key.WildCard)) options ∙ wild_again l) i;
      fold = (ap (truth_word_at true (name_of key.IgnoreCase)) options ∙ fold_again l) i;
    }

masks_there : (d : ServiceDef) → unless_null (mask_part_data d) ≡ Some (mask_part_data d)
unfolding mask_part_data
masks_there d = refl

filters_there : (d : ServiceDef) → unless_null (filter_part_data d) ≡ Some (filter_part_data d)
unfolding filter_part_data
filters_there d = refl

-- the parts of a definition that stand in maps of their own
record MaskPart (d : ServiceDef) : Type 0 where
  pub masks : list_at mask_type_of (name_of key.MaskTypes) (mask_part_data d) ≡ d.masks
  pub access : list_at member_name (name_of key.AccessTypes) (mask_part_data d) ≡ d.mask_access
  pub levels : list_at member_name (name_of key.Resources) (mask_part_data d) ≡ d.mask_levels

mask_part_again : (d : ServiceDef) → IsDef d → MaskPart d
unfolding mask_part_data name_of printed_name
mask_part_again d own =
    let at = λ (k : Key). get_with printed_name (name_of k) (mask_part_members d) no_members in
    let m = mask_part_data d in
    record {
      masks = own_again mask_type_of mask_type_data IsMaskType mask_type_again (name_of key.MaskTypes) d.masks m (at key.MaskTypes) own.masks;
      access = named_list_again (name_of key.AccessTypes) d.mask_access m (at key.AccessTypes) own.mask_access;
      levels = named_list_again (name_of key.Resources) d.mask_levels m (at key.Resources) own.mask_levels;
    }

record FilterPart (d : ServiceDef) : Type 0 where
  pub access : list_at member_name (name_of key.AccessTypes) (filter_part_data d) ≡ d.filter_access
  pub levels : list_at member_name (name_of key.Resources) (filter_part_data d) ≡ d.filter_levels

filter_part_again : (d : ServiceDef) → IsDef d → FilterPart d
unfolding filter_part_data name_of printed_name
filter_part_again d own =
    let at = λ (k : Key). get_with printed_name (name_of k) (filter_part_members d) no_members in
    let f = filter_part_data d in
    record {
      access = named_list_again (name_of key.AccessTypes) d.filter_access f (at key.AccessTypes) own.filter_access;
      levels = named_list_again (name_of key.Resources) d.filter_levels f (at key.Resources) own.filter_levels;
    }

pub def_again : (x : ServiceDef) → IsDef x → service_def_of (def_data x) ≡ x
unfolding service_def_of def_data name_of printed_name
def_again x own =
    let at = λ (k : Key). get_with printed_name (name_of k) (def_members x) no_members in
    let d = def_data x in
    let masks = within_again (name_of key.DataMaskDef) (mask_part_data x) d (at key.DataMaskDef) (masks_there x) in
    let filters = within_again (name_of key.RowFilterDef) (filter_part_data x) d (at key.RowFilterDef) (filters_there x) in
    let mask = mask_part_again x own in
    let filter = filter_part_again x own in
    λ i. record {
      name = text_again (name_of key.Name) x.name d (at key.Name) own.name i;
      levels = own_again level_of level_data IsLevel level_again (name_of key.Resources) x.levels d (at key.Resources) own.levels i;
      access_types = own_again access_type_of access_type_data IsAccessType access_type_again (name_of key.AccessTypes) x.access_types d (at key.AccessTypes) own.access_types i;
      conditions = own_again condition_def_of condition_def_data IsConditionDef condition_def_again (name_of key.PolicyConditions) x.conditions d (at key.PolicyConditions) own.conditions i;
      masks = (ap (list_at mask_type_of (name_of key.MaskTypes)) masks ∙ mask.masks) i;
      mask_access = (ap (list_at member_name (name_of key.AccessTypes)) masks ∙ mask.access) i;
      mask_levels = (ap (list_at member_name (name_of key.Resources)) masks ∙ mask.levels) i;
      filter_access = (ap (list_at member_name (name_of key.AccessTypes)) filters ∙ filter.access) i;
      filter_levels = (ap (list_at member_name (name_of key.Resources)) filters ∙ filter.levels) i;
    }

-- ---- services, users, roles

pub service_again : (s : ServiceRow) → IsService s → service_of (service_data s) ≡ s
unfolding service_of service_data name_of
service_again s own =
    let at = λ (k : Key). get_with name_of (name_of k) (service_members s) no_members in
    let d = service_data s in
    λ i. record {
      name = text_again (name_of key.Name) s.name d (at key.Name) own.name i;
      def = text_again (name_of key.Type) s.def d (at key.Type) own.def i;
      tag_service = text_again (name_of key.TagService) s.tag_service d (at key.TagService) own.tag_service i;
      fallback = bool_again false (name_of key.Fallback) s.fallback d (at key.Fallback) i;
    }

pub user_again : (u : UserRow) → IsUser u → user_of (user_data u) ≡ u
unfolding user_of user_data name_of
user_again u own =
    let at = λ (k : Key). get_with name_of (name_of k) (user_members u) no_members in
    let d = user_data u in
    λ i. record {
      name = text_again (name_of key.Name) u.name d (at key.Name) own.name i;
      groups = texts_again (name_of key.Groups) u.groups d (at key.Groups) own.groups i;
    }

pub role_again : (r : RoleRow) → IsRole r → role_of (role_data r) ≡ r
unfolding role_of role_data name_of printed_name
role_again r own =
    let at = λ (k : Key). get_with printed_name (name_of k) (role_members r) no_members in
    let d = role_data r in
    λ i. record {
      name = text_again (name_of key.Name) r.name d (at key.Name) own.name i;
      users = names_again (name_of key.Users) r.users d (at key.Users) own.users i;
      groups = names_again (name_of key.Groups) r.groups d (at key.Groups) own.groups i;
      roles = names_again (name_of key.Roles) r.roles d (at key.Roles) own.roles i;
    }

-- ---- zones

-- a list of texts that stands by itself
texts_of_again : (ts : Listed (List ℕ)) → OwnList IsText ts → list_of text_of (list_data text_data ts) ≡ ts
unfolding list_of items_in list_data
texts_of_again ts own =
    ap (λ ds. listed (map text_of ds)) (data_list-of (map text_data ts.items))
    ∙ ap (λ ys. listed ys) (each_again text_of text_data IsText text_of_again ts.items own.0)
    ∙ sym own.1

zone_level_again : (l : ZoneLevel) → IsZoneLevel l → zone_level_of (encode_utf8_all l.level, zone_level_data l) ≡ l
unfolding zone_level_of
zone_level_again l own = λ i. record { level = own.level i; values = texts_of_again l.values own.values i }

zone_map_again : (ls : Listed ZoneLevel) → OwnLevels ls → map_of zone_level_of (zone_map_data ls) ≡ ls
unfolding zone_map_data
zone_map_again ls own = map_of_again (λ (l : ZoneLevel). l.level) zone_level_data IsZoneLevel zone_level_of zone_level_again ls own

zone_service_again : (s : ZoneService) → IsZoneService s → zone_service_of (encode_utf8_all s.service, zone_service_data s) ≡ s
unfolding zone_service_of zone_service_data name_of printed_name
zone_service_again s own =
    let found = get_with printed_name (name_of key.Resources) (zone_service_members s) no_members in
    λ i. record {
      service = own.service i;
      resources = own_again (map_of zone_level_of) zone_map_data OwnLevels zone_map_again (name_of key.Resources) s.resources (zone_service_data s) found own.resources i;
    }

pub zone_again : (z : ZoneRow) → IsZone z → zone_of (zone_data z) ≡ z
unfolding zone_of zone_data subjects_of name_of printed_name
zone_again z own =
    let at = λ (k : Key). get_with printed_name (name_of k) (zone_members z) no_members in
    let d = zone_data z in
    λ i. record {
      name = text_again (name_of key.Name) z.name d (at key.Name) own.name i;
      services = map_at_again (λ (s : ZoneService). s.service) zone_service_data IsZoneService zone_service_of zone_service_again (name_of key.Services) z.services d (at key.Services) own.services i;
      tag_services = texts_again (name_of key.TagServices) z.tag_services d (at key.TagServices) own.tag_services i;
      admins = record {
        users = texts_again (name_of key.AdminUsers) z.admins.users d (at key.AdminUsers) own.admins.users i;
        groups = texts_again (name_of key.AdminUserGroups) z.admins.groups d (at key.AdminUserGroups) own.admins.groups i;
        roles = texts_again (name_of key.AdminRoles) z.admins.roles d (at key.AdminRoles) own.admins.roles i;
      };
      auditors = record {
        users = texts_again (name_of key.AuditUsers) z.auditors.users d (at key.AuditUsers) own.auditors.users i;
        groups = texts_again (name_of key.AuditUserGroups) z.auditors.groups d (at key.AuditUserGroups) own.auditors.groups i;
        roles = texts_again (name_of key.AuditRoles) z.auditors.roles d (at key.AuditRoles) own.auditors.roles i;
      };
    }

-- ---- tag rows

abbrev pub level_name : PolicyResource → List ℕ
level_name r = r.level

-- the levels of a policy are such a map too
levels_named : (rs : List PolicyResource) → put_levels rs ≡ named_members level_name resource_data rs
levels_named [] = refl
levels_named (r ∷ rs) = ap (put (encode_utf8_all r.level) (resource_data r)) (levels_named rs)

levels_in_order : (rs : List PolicyResource) → IsInOrder rs → AreInOrder level_name rs
levels_in_order [] h = tt
levels_in_order (r ∷ []) h = (tt, tt)
levels_in_order (r ∷ s ∷ rs) h = (h.0, levels_in_order (s ∷ rs) h.1)

pub resources_are_map : (rs : Listed PolicyResource) → resources_data rs ≡ map_data level_name resource_data rs
unfolding resources_data map_data
resources_are_map rs = ap object (levels_named rs.items)

pub own_resources : (rs : Listed PolicyResource) → OwnResources rs → OwnMap level_name IsResource rs
own_resources rs own = record { each = own.each; ordered = levels_in_order rs.items own.ordered; whole = own.whole }

resource_again : (r : PolicyResource) → IsResource r → policy_resource_of (encode_utf8_all r.level, resource_data r) ≡ r
unfolding policy_resource_of resource_data name_of
resource_again r own =
    let at = λ (k : Key). get_with name_of (name_of k) (resource_members r) no_members in
    let d = resource_data r in
    λ i. record {
      level = own.level i;
      values = texts_again (name_of key.Values) r.values d (at key.Values) own.values i;
      excludes = bool_again false (name_of key.IsExcludes) r.excludes d (at key.IsExcludes) i;
      recursive = bool_again false (name_of key.IsRecursive) r.recursive d (at key.IsRecursive) i;
    }

resources_again : (k : List ℕ) (rs : Listed PolicyResource) (d : Data) → get k d ≡ Some (resources_data rs) → OwnResources rs → map_at policy_resource_of k d ≡ rs
resources_again k rs d found own =
    map_at_again level_name resource_data IsResource policy_resource_of resource_again k rs d (found ∙ ap Some (resources_are_map rs)) (own_resources rs own)

tag_again : (t : Tag) → IsTag t → tag_of (tag_data t) ≡ t
unfolding tag_of tag_data name_of printed_name
tag_again t own =
    let at = λ (k : Key). get_with printed_name (name_of k) (tag_members t) no_members in
    let d = tag_data t in
    λ i. record {
      kind = text_again (name_of key.Type) t.kind d (at key.Type) own.kind i;
      attributes = pairs_again (name_of key.Attributes) t.attributes d (at key.Attributes) own.attributes i;
    }

pub tag_row_again : (r : TagRow) → IsTagRow r → tag_row_of (tag_row_data r) ≡ r
unfolding tag_row_of tag_row_for tag_row_data name_of printed_name
tag_row_again r own =
    let at = λ (k : Key). get_with printed_name (name_of k) (tag_row_members r) no_members in
    let d = tag_row_data r in
    λ i. record {
      id = integer_again (pos 0) (name_of key.Id) r.id d (at key.Id) own.id i;
      service = text_again (name_of key.ServiceName) r.service d (at key.ServiceName) own.service i;
      resources = resources_again (name_of key.ResourceElements) r.resources d (at key.ResourceElements) own.resources i;
      tags = own_again tag_of tag_data IsTag tag_again (name_of key.Tags) r.tags d (at key.Tags) own.tags i;
    }
