-- What was printed for rows has no fault.
use Rattle.std.proofs.Common.{◌≡◌, ℕ, List, Some, None, Bool, refl, ap, ◌∙◌}
use Rattle.serde_json.specs.Data.{Data, no_members}
use Rattle.serde_json.specs.Find.{get}
use Rattle.rg_base.specs.Listed.{Listed}
use Rattle.rg_base.specs.declared.pair.Pair.{Pair}
use Rattle.rg_cmd.specs.declared.state.ServiceRow.{ServiceRow}
use Rattle.rg_cmd.specs.declared.state.UserRow.{UserRow}
use Rattle.rg_defs.specs.declared.service_def.AccessType.{AccessType}
use Rattle.rg_defs.specs.declared.service_def.ConditionDef.{ConditionDef}
use Rattle.rg_defs.specs.declared.service_def.Level.{Level}
use Rattle.rg_defs.specs.declared.service_def.MaskType.{MaskType}
use Rattle.rg_defs.specs.declared.service_def.ServiceDef.{ServiceDef}
use Rattle.rg_json.specs.declared.shape.Keys.TheVariants.{Any}
use Rattle.rg_json.specs.declared.shape.Need.TheVariants.{Must, May}
use Rattle.rg_json.specs.Fields.{truth_word_of}
use Rattle.rg_json.specs.Faults.{fault_of}
use Rattle.rg_json.specs.Printing.{text_data, bool_data, integer_data, list_data}
use Rattle.rg_json.specs.Shape.{text, truth, truth_word, integer, list_of, map_of, text_or}
use Rattle.rg_json.proofs.Again.{get_with}
use Rattle.rg_json.proofs.Right.{first_right, head, list_right, own_list_right, text_right, texts_right, integer_right}
use Rattle.rg_policy.specs.declared.policy.PolicyResource.{PolicyResource}
use Rattle.rg_policy.specs.declared.tags.Tag.{Tag}
use Rattle.rg_roles.specs.declared.row.RoleRow.{RoleRow}
use Rattle.rg_tags.specs.declared.row.TagRow.{TagRow}
use Rattle.rg_zone_rules.specs.declared.row.ZoneLevel.{ZoneLevel}
use Rattle.rg_zone_rules.specs.declared.row.ZoneRow.{ZoneRow}
use Rattle.rg_zone_rules.specs.declared.row.ZoneService.{ZoneService}
use Rattle.rg_wire.specs.declared.key.Key.{Key}
use Rattle.rg_wire.specs.declared.key.Key.TheVariants as key
use Rattle.rg_wire.specs.Names.{name_of}
use Rattle.rg_wire.specs.Own.{IsResource, OwnResources}
use Rattle.rg_wire.specs.Printing.{resource_data, resource_members, resources_data}
use Rattle.rg_wire.specs.Shapes.{access_type_shape, condition_def_shape, filter_part_shape, level_shape, mask_part_shape, mask_type_shape, named_shape, options_shape, policy_resource_shape, role_shape, service_shape, service_def_shape, tag_shape, tag_row_shape, user_shape, zone_service_shape, zone_shape}
use Rattle.rg_cmd_wire.specs.PrintedNames.{name_of as printed_name}
use Rattle.rg_cmd_wire.specs.PrintedRows.{access_type_data, access_type_members, condition_def_data, condition_def_members, def_data, def_members, filter_part_data, filter_part_members, level_data, level_members, map_data, mask_part_data, mask_part_members, mask_type_data, mask_type_members, name_members, named_data, options_data, options_members, pair_data, pairs_data, role_data, role_members, tag_data, tag_members, tag_row_data, tag_row_members, zone_data, zone_level_data, zone_map_data, zone_members, zone_service_data, zone_service_members}
use Rattle.rg_ask_wire.specs.Asks.{service_data, service_members, user_data, user_members}
use Rattle.rg_ask_wire.specs.KeyOrder.{IsConditionDef, IsDef, IsLevel, IsPair, IsTag, IsTagRow, IsZone, IsZoneLevel, IsZoneService, OwnLevels, OwnPairs}
use Rattle.rg_ask_wire.proofs.Maps.{map_right}
use Rattle.rg_ask_wire.proofs.Rows.{level_name, own_resources, resources_are_map}

-- ---- parts

truth_word_right : (b : Bool) → fault_of truth_word (bool_data b) ≡ None
unfolding truth_word_of
truth_word_right b = refl

named_right : (t : List ℕ) → fault_of named_shape (named_data t) ≡ None
unfolding named_data name_of printed_name text_data
named_right t = first_right _ _ (head (name_of key.Name) Must text (text_data t) (named_data t) (get_with printed_name (name_of key.Name) (name_members t) no_members) refl (text_right t)) refl

-- a name that is a text may stand where a map may
member_right : (t : List ℕ) → fault_of (text_or named_shape) (text_data t) ≡ None
unfolding text_data
member_right t = refl

members_right : (ts : Listed (List ℕ)) → fault_of (list_of (text_or named_shape)) (list_data text_data ts) ≡ None
members_right ts = list_right (text_or named_shape) text_data member_right ts

pair_right : (p : Pair) → IsPair p → fault_of text (pair_data p) ≡ None
pair_right p own = text_right p.value

pairs_right : (ps : Listed Pair) → OwnPairs ps → fault_of (map_of Any text) (pairs_data ps) ≡ None
unfolding pairs_data
pairs_right ps own = map_right (λ (p : Pair). p.key) pair_data IsPair text pair_right ps own

-- ---- service definitions

options_right : (l : Level) → fault_of options_shape (options_data l) ≡ None
unfolding options_data name_of printed_name
options_right l =
    let at = λ (k : Key). get_with printed_name (name_of k) (options_members l) no_members in
    let d = options_data l in
    first_right _ _ (head (name_of key.WildCard) May truth_word (bool_data l.wild) d (at key.WildCard) refl (truth_word_right l.wild)) (
    first_right _ _ (head (name_of key.IgnoreCase) May truth_word (bool_data l.fold) d (at key.IgnoreCase) refl (truth_word_right l.fold)) refl)

level_right : (l : Level) → IsLevel l → fault_of level_shape (level_data l) ≡ None
unfolding level_data name_of printed_name text_data integer_data options_data
level_right l own =
    let at = λ (k : Key). get_with printed_name (name_of k) (level_members l) no_members in
    let d = level_data l in
    first_right _ _ (head (name_of key.Name) Must text (text_data l.name) d (at key.Name) refl (text_right l.name)) (
    first_right _ _ (head (name_of key.Level) May integer (integer_data l.level) d (at key.Level) refl (integer_right l.level own.level)) (
    first_right _ _ (head (name_of key.Parent) May text (text_data l.parent) d (at key.Parent) refl (text_right l.parent)) (
    first_right _ _ (head (name_of key.Mandatory) May truth (bool_data l.mandatory) d (at key.Mandatory) refl refl) (
    first_right _ _ (head (name_of key.RecursiveSupported) May truth (bool_data l.recursive) d (at key.RecursiveSupported) refl refl) (
    first_right _ _ (head (name_of key.ExcludesSupported) May truth (bool_data l.excludes) d (at key.ExcludesSupported) refl refl) (
    first_right _ _ (head (name_of key.MatcherOptions) May options_shape (options_data l) d (at key.MatcherOptions) refl (options_right l)) refl))))))

access_type_right : (a : AccessType) → fault_of access_type_shape (access_type_data a) ≡ None
unfolding access_type_data name_of printed_name text_data list_data
access_type_right a =
    let at = λ (k : Key). get_with printed_name (name_of k) (access_type_members a) no_members in
    let d = access_type_data a in
    first_right _ _ (head (name_of key.Name) Must text (text_data a.name) d (at key.Name) refl (text_right a.name)) (
    first_right _ _ (head (name_of key.ImpliedGrants) May (list_of text) (list_data text_data a.implied) d (at key.ImpliedGrants) refl (texts_right a.implied)) refl)

condition_def_right : (c : ConditionDef) → IsConditionDef c → fault_of condition_def_shape (condition_def_data c) ≡ None
unfolding condition_def_data name_of printed_name text_data pairs_data map_data
condition_def_right c own =
    let at = λ (k : Key). get_with printed_name (name_of k) (condition_def_members c) no_members in
    let d = condition_def_data c in
    first_right _ _ (head (name_of key.Name) Must text (text_data c.name) d (at key.Name) refl (text_right c.name)) (
    first_right _ _ (head (name_of key.Evaluator) May text (text_data c.evaluator) d (at key.Evaluator) refl (text_right c.evaluator)) (
    first_right _ _ (head (name_of key.EvaluatorOptions) May (map_of Any text) (pairs_data c.options) d (at key.EvaluatorOptions) refl (pairs_right c.options own.options)) refl))

mask_type_right : (m : MaskType) → fault_of mask_type_shape (mask_type_data m) ≡ None
unfolding mask_type_data name_of printed_name text_data
mask_type_right m =
    let at = λ (k : Key). get_with printed_name (name_of k) (mask_type_members m) no_members in
    let d = mask_type_data m in
    first_right _ _ (head (name_of key.Name) Must text (text_data m.name) d (at key.Name) refl (text_right m.name)) (
    first_right _ _ (head (name_of key.Transformer) May text (text_data m.transformer) d (at key.Transformer) refl (text_right m.transformer)) refl)

names_right : (ts : Listed (List ℕ)) → fault_of (list_of named_shape) (list_data named_data ts) ≡ None
names_right ts = list_right named_shape named_data named_right ts

mask_part_right : (x : ServiceDef) → fault_of mask_part_shape (mask_part_data x) ≡ None
unfolding mask_part_data name_of printed_name list_data
mask_part_right x =
    let at = λ (k : Key). get_with printed_name (name_of k) (mask_part_members x) no_members in
    let d = mask_part_data x in
    first_right _ _ (head (name_of key.MaskTypes) May (list_of mask_type_shape) (list_data mask_type_data x.masks) d (at key.MaskTypes) refl (list_right mask_type_shape mask_type_data mask_type_right x.masks)) (
    first_right _ _ (head (name_of key.AccessTypes) May (list_of named_shape) (list_data named_data x.mask_access) d (at key.AccessTypes) refl (names_right x.mask_access)) (
    first_right _ _ (head (name_of key.Resources) May (list_of named_shape) (list_data named_data x.mask_levels) d (at key.Resources) refl (names_right x.mask_levels)) refl))

filter_part_right : (x : ServiceDef) → fault_of filter_part_shape (filter_part_data x) ≡ None
unfolding filter_part_data name_of printed_name list_data
filter_part_right x =
    let at = λ (k : Key). get_with printed_name (name_of k) (filter_part_members x) no_members in
    let d = filter_part_data x in
    first_right _ _ (head (name_of key.AccessTypes) May (list_of named_shape) (list_data named_data x.filter_access) d (at key.AccessTypes) refl (names_right x.filter_access)) (
    first_right _ _ (head (name_of key.Resources) May (list_of named_shape) (list_data named_data x.filter_levels) d (at key.Resources) refl (names_right x.filter_levels)) refl)

pub def_right : (x : ServiceDef) → IsDef x → fault_of service_def_shape (def_data x) ≡ None
unfolding def_data name_of printed_name text_data list_data mask_part_data filter_part_data
def_right x own =
    let at = λ (k : Key). get_with printed_name (name_of k) (def_members x) no_members in
    let d = def_data x in
    first_right _ _ (head (name_of key.Name) Must text (text_data x.name) d (at key.Name) refl (text_right x.name)) (
    first_right _ _ (head (name_of key.Resources) May (list_of level_shape) (list_data level_data x.levels) d (at key.Resources) refl (own_list_right level_shape level_data IsLevel level_right x.levels own.levels.0)) (
    first_right _ _ (head (name_of key.AccessTypes) May (list_of access_type_shape) (list_data access_type_data x.access_types) d (at key.AccessTypes) refl (list_right access_type_shape access_type_data access_type_right x.access_types)) (
    first_right _ _ (head (name_of key.PolicyConditions) May (list_of condition_def_shape) (list_data condition_def_data x.conditions) d (at key.PolicyConditions) refl (own_list_right condition_def_shape condition_def_data IsConditionDef condition_def_right x.conditions own.conditions.0)) (
    first_right _ _ (head (name_of key.DataMaskDef) May mask_part_shape (mask_part_data x) d (at key.DataMaskDef) refl (mask_part_right x)) (
    first_right _ _ (head (name_of key.RowFilterDef) May filter_part_shape (filter_part_data x) d (at key.RowFilterDef) refl (filter_part_right x)) refl)))))

-- ---- services, users, roles

pub service_right : (s : ServiceRow) → fault_of service_shape (service_data s) ≡ None
unfolding service_data name_of text_data
service_right s =
    let at = λ (k : Key). get_with name_of (name_of k) (service_members s) no_members in
    let d = service_data s in
    first_right _ _ (head (name_of key.Name) Must text (text_data s.name) d (at key.Name) refl (text_right s.name)) (
    first_right _ _ (head (name_of key.Type) Must text (text_data s.def) d (at key.Type) refl (text_right s.def)) (
    first_right _ _ (head (name_of key.TagService) May text (text_data s.tag_service) d (at key.TagService) refl (text_right s.tag_service)) (
    first_right _ _ (head (name_of key.Fallback) May truth (bool_data s.fallback) d (at key.Fallback) refl refl) refl)))

pub user_right : (u : UserRow) → fault_of user_shape (user_data u) ≡ None
unfolding user_data name_of text_data list_data
user_right u =
    let at = λ (k : Key). get_with name_of (name_of k) (user_members u) no_members in
    let d = user_data u in
    first_right _ _ (head (name_of key.Name) Must text (text_data u.name) d (at key.Name) refl (text_right u.name)) (
    first_right _ _ (head (name_of key.Groups) May (list_of text) (list_data text_data u.groups) d (at key.Groups) refl (texts_right u.groups)) refl)

pub role_right : (r : RoleRow) → fault_of role_shape (role_data r) ≡ None
unfolding role_data name_of printed_name text_data list_data
role_right r =
    let at = λ (k : Key). get_with printed_name (name_of k) (role_members r) no_members in
    let d = role_data r in
    first_right _ _ (head (name_of key.Name) Must text (text_data r.name) d (at key.Name) refl (text_right r.name)) (
    first_right _ _ (head (name_of key.Users) May (list_of (text_or named_shape)) (list_data text_data r.users) d (at key.Users) refl (members_right r.users)) (
    first_right _ _ (head (name_of key.Groups) May (list_of (text_or named_shape)) (list_data text_data r.groups) d (at key.Groups) refl (members_right r.groups)) (
    first_right _ _ (head (name_of key.Roles) May (list_of (text_or named_shape)) (list_data text_data r.roles) d (at key.Roles) refl (members_right r.roles)) refl)))

-- ---- zones

zone_level_right : (l : ZoneLevel) → IsZoneLevel l → fault_of (list_of text) (zone_level_data l) ≡ None
zone_level_right l own = texts_right l.values

zone_map_right : (ls : Listed ZoneLevel) → OwnLevels ls → fault_of (map_of Any (list_of text)) (zone_map_data ls) ≡ None
unfolding zone_map_data
zone_map_right ls own = map_right (λ (l : ZoneLevel). l.level) zone_level_data IsZoneLevel (list_of text) zone_level_right ls own

zone_service_right : (s : ZoneService) → IsZoneService s → fault_of zone_service_shape (zone_service_data s) ≡ None
unfolding zone_service_data name_of printed_name list_data
zone_service_right s own =
    first_right _ _ (head (name_of key.Resources) May (list_of (map_of Any (list_of text))) (list_data zone_map_data s.resources) (zone_service_data s) (get_with printed_name (name_of key.Resources) (zone_service_members s) no_members) refl (own_list_right (map_of Any (list_of text)) zone_map_data OwnLevels zone_map_right s.resources own.resources.0)) refl

pub zone_right : (z : ZoneRow) → IsZone z → fault_of zone_shape (zone_data z) ≡ None
unfolding zone_data name_of printed_name text_data list_data map_data
zone_right z own =
    let at = λ (k : Key). get_with printed_name (name_of k) (zone_members z) no_members in
    let d = zone_data z in
    let texts = λ (k : Key) (ts : Listed (List ℕ)) (found : get (name_of k) d ≡ Some (list_data text_data ts)). head (name_of k) May (list_of text) (list_data text_data ts) d found refl (texts_right ts) in
    first_right _ _ (head (name_of key.Name) Must text (text_data z.name) d (at key.Name) refl (text_right z.name)) (
    first_right _ _ (head (name_of key.Services) May (map_of Any zone_service_shape) (map_data (λ (s : ZoneService). s.service) zone_service_data z.services) d (at key.Services) refl (map_right (λ (s : ZoneService). s.service) zone_service_data IsZoneService zone_service_shape zone_service_right z.services own.services)) (
    first_right _ _ (texts key.TagServices z.tag_services (at key.TagServices)) (
    first_right _ _ (texts key.AdminUsers z.admins.users (at key.AdminUsers)) (
    first_right _ _ (texts key.AdminUserGroups z.admins.groups (at key.AdminUserGroups)) (
    first_right _ _ (texts key.AdminRoles z.admins.roles (at key.AdminRoles)) (
    first_right _ _ (texts key.AuditUsers z.auditors.users (at key.AuditUsers)) (
    first_right _ _ (texts key.AuditUserGroups z.auditors.groups (at key.AuditUserGroups)) (
    first_right _ _ (texts key.AuditRoles z.auditors.roles (at key.AuditRoles)) refl))))))))

-- ---- tag rows

resource_right : (r : PolicyResource) → IsResource r → fault_of policy_resource_shape (resource_data r) ≡ None
unfolding resource_data name_of list_data
resource_right r own =
    let at = λ (k : Key). get_with name_of (name_of k) (resource_members r) no_members in
    let d = resource_data r in
    first_right _ _ (head (name_of key.Values) May (list_of text) (list_data text_data r.values) d (at key.Values) refl (texts_right r.values)) (
    first_right _ _ (head (name_of key.IsExcludes) May truth (bool_data r.excludes) d (at key.IsExcludes) refl refl) (
    first_right _ _ (head (name_of key.IsRecursive) May truth (bool_data r.recursive) d (at key.IsRecursive) refl refl) refl))

pub resources_right : (rs : Listed PolicyResource) → OwnResources rs → fault_of (map_of Any policy_resource_shape) (resources_data rs) ≡ None
resources_right rs own = ap (fault_of (map_of Any policy_resource_shape)) (resources_are_map rs) ∙ map_right level_name resource_data IsResource policy_resource_shape resource_right rs (own_resources rs own)

pub tag_right : (t : Tag) → IsTag t → fault_of tag_shape (tag_data t) ≡ None
unfolding tag_data name_of printed_name text_data pairs_data map_data
tag_right t own =
    let at = λ (k : Key). get_with printed_name (name_of k) (tag_members t) no_members in
    let d = tag_data t in
    first_right _ _ (head (name_of key.Type) Must text (text_data t.kind) d (at key.Type) refl (text_right t.kind)) (
    first_right _ _ (head (name_of key.Attributes) May (map_of Any text) (pairs_data t.attributes) d (at key.Attributes) refl (pairs_right t.attributes own.attributes)) refl)

pub tag_row_right : (r : TagRow) → IsTagRow r → fault_of tag_row_shape (tag_row_data r) ≡ None
unfolding tag_row_data name_of printed_name text_data integer_data list_data resources_data
tag_row_right r own =
    let at = λ (k : Key). get_with printed_name (name_of k) (tag_row_members r) no_members in
    let d = tag_row_data r in
    first_right _ _ (head (name_of key.Id) May integer (integer_data r.id) d (at key.Id) refl (integer_right r.id own.id)) (
    first_right _ _ (head (name_of key.ServiceName) Must text (text_data r.service) d (at key.ServiceName) refl (text_right r.service)) (
    first_right _ _ (head (name_of key.ResourceElements) May (map_of Any policy_resource_shape) (resources_data r.resources) d (at key.ResourceElements) refl (resources_right r.resources own.resources)) (
    first_right _ _ (head (name_of key.Tags) May (list_of tag_shape) (list_data tag_data r.tags) d (at key.Tags) refl (own_list_right tag_shape tag_data IsTag tag_right r.tags own.tags.0)) refl)))
