-- What is printed for rows, replies and downloads has no float, and nests a few levels.
use Rattle.std.proofs.Common.{◌≡◌, ℕ, ◌+◌, ◌≤◌, true, false, List, [], ◌∷◌, refl, arith}
use Rattle.serde_json.specs.Data.{Data}
use Rattle.serde_json.specs.Written.{has_float}
use Rattle.rg_base.specs.Listed.{Listed}
use Rattle.rg_base.specs.declared.numbers.PolicyId.{PolicyId}
use Rattle.rg_base.specs.declared.numbers.Version.{Version}
use Rattle.rg_base.specs.declared.pair.Pair.{Pair}
use Rattle.rg_policy.specs.declared.policy.Policy.{Policy}
use Rattle.rg_policy.specs.declared.policy.TimeZoneRow.{TimeZoneRow}
use Rattle.rg_policy.specs.declared.tags.Tag.{Tag}
use Rattle.rg_defs.specs.declared.service_def.AccessType.{AccessType}
use Rattle.rg_defs.specs.declared.service_def.ConditionDef.{ConditionDef}
use Rattle.rg_defs.specs.declared.service_def.Level.{Level}
use Rattle.rg_defs.specs.declared.service_def.MaskType.{MaskType}
use Rattle.rg_defs.specs.declared.service_def.ServiceDef.{ServiceDef}
use Rattle.rg_roles.specs.declared.row.RoleRow.{RoleRow}
use Rattle.rg_tags.specs.declared.row.TagRow.{TagRow}
use Rattle.rg_zone_rules.specs.declared.row.ZoneLevel.{ZoneLevel}
use Rattle.rg_zone_rules.specs.declared.row.ZoneRow.{ZoneRow}
use Rattle.rg_zone_rules.specs.declared.row.ZoneService.{ZoneService}
use Rattle.rg_json.specs.Printing.{bool_data, list_data}
use Rattle.rg_json.proofs.Plain.{Plain, PlainMembers, none_plain, put_plain, object_plain, list_plain, text_plain, bool_plain, integer_plain, count_plain, option_plain, texts_plain}
use Rattle.rg_wire.specs.Printing.{policy_data}
use Rattle.rg_wire.proofs.Plain.{policy_plain, resources_plain}
use Rattle.rg_cmd.specs.declared.ask.AdminReply.{AdminReply}
use Rattle.rg_cmd.specs.declared.ask.AdminReply.TheVariants.{Done, Kept, Found, Listed as ListedPolicies, Downloaded, Refused}
use Rattle.rg_cmd.specs.declared.changes.PolicyChange.{PolicyChange}
use Rattle.rg_cmd.specs.declared.changes.TagChange.{TagChange}
use Rattle.rg_cmd.specs.declared.download.Download.{Download}
use Rattle.rg_cmd.specs.declared.download.PolicyDelta.{PolicyDelta}
use Rattle.rg_cmd.specs.declared.download.PolicyPart.{PolicyPart}
use Rattle.rg_cmd.specs.declared.download.PolicyPart.TheVariants as policies
use Rattle.rg_cmd.specs.declared.download.PolicyWhole.{PolicyWhole}
use Rattle.rg_cmd.specs.declared.download.RolePart.{RolePart}
use Rattle.rg_cmd.specs.declared.download.RolePart.TheVariants as roles
use Rattle.rg_cmd.specs.declared.download.RoleWhole.{RoleWhole}
use Rattle.rg_cmd.specs.declared.download.TagDelta.{TagDelta}
use Rattle.rg_cmd.specs.declared.download.TagPart.{TagPart}
use Rattle.rg_cmd.specs.declared.download.TagPart.TheVariants as tags
use Rattle.rg_cmd.specs.declared.download.TagWhole.{TagWhole}
use Rattle.rg_cmd.specs.declared.rule.Rule.{Rule}
use Rattle.rg_cmd_wire.specs.PrintedNames.{name_of, only_data}
use Rattle.rg_cmd_wire.specs.PrintedRows.{named_members, map_data, pair_data, pairs_data, options_members, options_data, level_members, level_data, access_type_members, access_type_data, condition_def_members, condition_def_data, mask_type_members, mask_type_data, name_members, named_data, mask_part_members, mask_part_data, filter_part_members, filter_part_data, def_members, def_data, role_members, role_data, zone_level_data, zone_map_data, zone_service_members, zone_service_data, zone_members, zone_data, tag_members, tag_data, tag_row_members, tag_row_data, time_zone_members, time_zone_data}
use Rattle.rg_cmd_wire.specs.PrintedParts.{policy_change_members, policy_change_data, policy_delta_members, policy_delta_data, policy_whole_members, policy_whole_data, tag_change_members, tag_change_data, tag_delta_members, tag_delta_data, tag_whole_members, tag_whole_data, role_whole_members, role_whole_data, unchanged_data, policy_part_data, tag_part_data, role_part_data}
use Rattle.rg_cmd_wire.specs.PrintedReplies.{rule_data, policies_data, kept_members, kept_data, download_members, download_data, reply_data, refusal_data}
use Rattle.rg_cmd_wire.specs.declared.reply_key.ReplyKey.{ReplyKey}
use Rattle.rg_cmd_wire.specs.declared.reply_key.ReplyKey.TheVariants as own

-- ---- maps

members_plain : {X : Type 0} (n : ℕ) (name : X → List ℕ) (print : X → Data) → ((x : X) → Plain n (print x)) → (xs : List X) → PlainMembers n (named_members name print xs)
members_plain n name print each [] = none_plain n
members_plain n name print each (x ∷ xs) = put_plain n _ _ _ (each x) (members_plain n name print each xs)

map_plain : {X : Type 0} (n m : ℕ) (name : X → List ℕ) (print : X → Data) (xs : Listed X) → n + 1 ≤ m → ((x : X) → Plain n (print x)) → Plain m (map_data name print xs)
unfolding map_data
map_plain n m name print xs h each = let q = members_plain n name print each xs.items in (q.0, omega (arith, q.1, h))

only_plain : (n m : ℕ) (key : ReplyKey) (d : Data) → n + 1 ≤ m → Plain n d → Plain m (only_data key d)
unfolding only_data
only_plain n m key d h p = object_plain name_of n m ((key, d) ∷ []) h (p, tt)

pairs_plain : (n : ℕ) (ps : Listed Pair) → 1 ≤ n → Plain n (pairs_data ps)
unfolding pairs_data
pairs_plain n ps h = map_plain 0 n (λ (p : Pair). p.key) pair_data ps h (λ (p : Pair). text_plain 0 p.value)

-- ---- service definitions

options_plain : (l : Level) → Plain 1 (options_data l)
unfolding options_data
options_plain l = object_plain name_of 0 1 (options_members l) (omega arith) (bool_plain 0 l.wild, (bool_plain 0 l.fold, tt))

level_plain : (l : Level) → Plain 2 (level_data l)
unfolding level_data
level_plain l = object_plain name_of 1 2 (level_members l) (omega arith) (text_plain 1 l.name, (integer_plain 1 l.level, (text_plain 1 l.parent, (bool_plain 1 l.mandatory, (bool_plain 1 l.recursive, (bool_plain 1 l.excludes, (options_plain l, tt)))))))

access_type_plain : (a : AccessType) → Plain 2 (access_type_data a)
unfolding access_type_data
access_type_plain a = object_plain name_of 1 2 (access_type_members a) (omega arith) (text_plain 1 a.name, (texts_plain 1 a.implied (omega arith), tt))

condition_def_plain : (c : ConditionDef) → Plain 2 (condition_def_data c)
unfolding condition_def_data
condition_def_plain c = object_plain name_of 1 2 (condition_def_members c) (omega arith) (text_plain 1 c.name, (text_plain 1 c.evaluator, (pairs_plain 1 c.options (omega arith), tt)))

mask_type_plain : (m : MaskType) → Plain 1 (mask_type_data m)
unfolding mask_type_data
mask_type_plain m = object_plain name_of 0 1 (mask_type_members m) (omega arith) (text_plain 0 m.name, (text_plain 0 m.transformer, tt))

named_plain : (name : List ℕ) → Plain 1 (named_data name)
unfolding named_data
named_plain name = object_plain name_of 0 1 (name_members name) (omega arith) (text_plain 0 name, tt)

names_plain : (names : Listed (List ℕ)) → Plain 2 (list_data named_data names)
names_plain names = list_plain 1 2 named_data names (omega arith) named_plain

mask_part_plain : (d : ServiceDef) → Plain 3 (mask_part_data d)
unfolding mask_part_data
mask_part_plain d = object_plain name_of 2 3 (mask_part_members d) (omega arith) (list_plain 1 2 mask_type_data d.masks (omega arith) mask_type_plain, (names_plain d.mask_access, (names_plain d.mask_levels, tt)))

filter_part_plain : (d : ServiceDef) → Plain 3 (filter_part_data d)
unfolding filter_part_data
filter_part_plain d = object_plain name_of 2 3 (filter_part_members d) (omega arith) (names_plain d.filter_access, (names_plain d.filter_levels, tt))

pub def_plain : (n : ℕ) (d : ServiceDef) → 4 ≤ n → Plain n (def_data d)
unfolding def_data
def_plain n d h = object_plain name_of 3 n (def_members d) h (text_plain 3 d.name, (list_plain 2 3 level_data d.levels (omega arith) level_plain, (list_plain 2 3 access_type_data d.access_types (omega arith) access_type_plain, (list_plain 2 3 condition_def_data d.conditions (omega arith) condition_def_plain, (mask_part_plain d, (filter_part_plain d, tt))))))

-- ---- roles, zones, tag rows, time zones

pub role_plain : (r : RoleRow) → Plain 2 (role_data r)
unfolding role_data
role_plain r = object_plain name_of 1 2 (role_members r) (omega arith) (text_plain 1 r.name, (texts_plain 1 r.users (omega arith), (texts_plain 1 r.groups (omega arith), (texts_plain 1 r.roles (omega arith), tt))))

zone_map_plain : (ls : Listed ZoneLevel) → Plain 2 (zone_map_data ls)
unfolding zone_map_data
zone_map_plain ls = map_plain 1 2 (λ (l : ZoneLevel). l.level) zone_level_data ls (omega arith) (λ (l : ZoneLevel). texts_plain 1 l.values (omega arith))

zone_service_plain : (s : ZoneService) → Plain 4 (zone_service_data s)
unfolding zone_service_data
zone_service_plain s = object_plain name_of 3 4 (zone_service_members s) (omega arith) (list_plain 2 3 zone_map_data s.resources (omega arith) zone_map_plain, tt)

pub zone_plain : (z : ZoneRow) → Plain 6 (zone_data z)
unfolding zone_data
zone_plain z = object_plain name_of 5 6 (zone_members z) (omega arith) (text_plain 5 z.name, (map_plain 4 5 (λ (s : ZoneService). s.service) zone_service_data z.services (omega arith) zone_service_plain, (texts_plain 5 z.tag_services (omega arith), (texts_plain 5 z.admins.users (omega arith), (texts_plain 5 z.admins.groups (omega arith), (texts_plain 5 z.admins.roles (omega arith), (texts_plain 5 z.auditors.users (omega arith), (texts_plain 5 z.auditors.groups (omega arith), (texts_plain 5 z.auditors.roles (omega arith), tt)))))))))

tag_plain : (t : Tag) → Plain 2 (tag_data t)
unfolding tag_data
tag_plain t = object_plain name_of 1 2 (tag_members t) (omega arith) (text_plain 1 t.kind, (pairs_plain 1 t.attributes (omega arith), tt))

pub tag_row_plain : (r : TagRow) → Plain 4 (tag_row_data r)
unfolding tag_row_data
tag_row_plain r = object_plain name_of 3 4 (tag_row_members r) (omega arith) (integer_plain 3 r.id, (text_plain 3 r.service, (resources_plain 3 r.resources (omega arith), (list_plain 2 3 tag_data r.tags (omega arith) tag_plain, tt))))

time_zone_plain : (t : TimeZoneRow) → Plain 1 (time_zone_data t)
unfolding time_zone_data
time_zone_plain t = object_plain name_of 0 1 (time_zone_members t) (omega arith) (text_plain 0 t.name, (text_plain 0 t.rule, tt))

-- ---- parts

policies_plain : (n : ℕ) (ps : Listed Policy) → 7 ≤ n → Plain n (policies_data ps)
policies_plain n ps h = list_plain 6 n policy_data ps h policy_plain

zones_plain : (n : ℕ) (zs : Listed ZoneRow) → 7 ≤ n → Plain n (list_data zone_data zs)
zones_plain n zs h = list_plain 6 n zone_data zs h zone_plain

policy_change_plain : (c : PolicyChange) → Plain 7 (policy_change_data c)
unfolding policy_change_data
policy_change_plain c = object_plain name_of 6 7 (policy_change_members c) (omega arith) (count_plain 6 c.change_type, (bool_plain 6 c.tag, (policy_plain c.policy, tt)))

policy_delta_plain : (d : PolicyDelta) → Plain 9 (policy_delta_data d)
unfolding policy_delta_data
policy_delta_plain d = object_plain name_of 8 9 (policy_delta_members d) (omega arith) (count_plain 8 d.from.0, (count_plain 8 d.to.0, (list_plain 7 8 policy_change_data d.changes (omega arith) policy_change_plain, (option_plain 8 (list_data zone_data) d.zones (λ zs. zones_plain 8 zs (omega arith)), tt))))

policy_whole_plain : (w : PolicyWhole) → Plain 9 (policy_whole_data w)
unfolding policy_whole_data
policy_whole_plain w = object_plain name_of 8 9 (policy_whole_members w) (omega arith) (count_plain 8 w.version.0, (bool_plain 8 w.fallback, (def_plain 8 w.def (omega arith), (option_plain 8 def_data w.tag_def (λ d. def_plain 8 d (omega arith)), (policies_plain 8 w.policies (omega arith), (policies_plain 8 w.tag_policies (omega arith), (zones_plain 8 w.zones (omega arith), (list_plain 1 8 time_zone_data w.time_zones (omega arith) time_zone_plain, tt))))))))

tag_change_plain : (c : TagChange) → Plain 5 (tag_change_data c)
unfolding tag_change_data
tag_change_plain c = object_plain name_of 4 5 (tag_change_members c) (omega arith) (count_plain 4 c.change_type, (tag_row_plain c.row, tt))

tag_delta_plain : (d : TagDelta) → Plain 9 (tag_delta_data d)
unfolding tag_delta_data
tag_delta_plain d = object_plain name_of 8 9 (tag_delta_members d) (omega arith) (count_plain 8 d.from.0, (count_plain 8 d.to.0, (list_plain 5 8 tag_change_data d.changes (omega arith) tag_change_plain, tt)))

tag_whole_plain : (w : TagWhole) → Plain 9 (tag_whole_data w)
unfolding tag_whole_data
tag_whole_plain w = object_plain name_of 8 9 (tag_whole_members w) (omega arith) (count_plain 8 w.version.0, (list_plain 4 8 tag_row_data w.rows (omega arith) tag_row_plain, tt))

role_whole_plain : (w : RoleWhole) → Plain 9 (role_whole_data w)
unfolding role_whole_data
role_whole_plain w = object_plain name_of 8 9 (role_whole_members w) (omega arith) (count_plain 8 w.version.0, (list_plain 2 8 role_data w.roles (omega arith) role_plain, tt))

unchanged_plain : (n : ℕ) → Plain n unchanged_data
unchanged_plain n = (refl, omega arith)

policy_part_plain : (p : PolicyPart) → Plain 10 (policy_part_data p)
unfolding policy_part_data
policy_part_plain policies.Unchanged = unchanged_plain 10
policy_part_plain (policies.Delta d) = only_plain 9 10 _ _ (omega arith) (policy_delta_plain d)
policy_part_plain (policies.Whole w) = only_plain 9 10 _ _ (omega arith) (policy_whole_plain w)

tag_part_plain : (p : TagPart) → Plain 10 (tag_part_data p)
unfolding tag_part_data
tag_part_plain tags.Unchanged = unchanged_plain 10
tag_part_plain (tags.Delta d) = only_plain 9 10 _ _ (omega arith) (tag_delta_plain d)
tag_part_plain (tags.Whole w) = only_plain 9 10 _ _ (omega arith) (tag_whole_plain w)

role_part_plain : (p : RolePart) → Plain 10 (role_part_data p)
unfolding role_part_data
role_part_plain roles.Unchanged = unchanged_plain 10
role_part_plain (roles.Whole w) = only_plain 9 10 _ _ (omega arith) (role_whole_plain w)

pub policy_part_has_no_float : (p : PolicyPart) → has_float (policy_part_data p) ≡ false
policy_part_has_no_float p = (policy_part_plain p).0

pub tag_part_has_no_float : (p : TagPart) → has_float (tag_part_data p) ≡ false
tag_part_has_no_float p = (tag_part_plain p).0

pub role_part_has_no_float : (p : RolePart) → has_float (role_part_data p) ≡ false
role_part_has_no_float p = (role_part_plain p).0

pub ruleset parts = (policy_part_has_no_float, tag_part_has_no_float, role_part_has_no_float)

-- ---- replies

rule_plain : (n : ℕ) (r : Rule) → Plain n (rule_data r)
rule_plain n r = (refl, omega arith)

kept_plain : (n : ℕ) (id : PolicyId) (version : Version) → 1 ≤ n → Plain n (kept_data id version)
unfolding kept_data
kept_plain n id version h = object_plain name_of 0 n (kept_members id version) h (integer_plain 0 id.0, (count_plain 0 version.0, tt))

download_plain : (d : Download) → Plain 11 (download_data d)
unfolding download_data
download_plain d = object_plain name_of 10 11 (download_members d) (omega arith) (policy_part_plain d.policies, (role_part_plain d.roles, (count_plain 10 d.seq, (tag_part_plain d.tags, tt))))

reply_plain : (r : AdminReply) → Plain 11 (reply_data r)
unfolding reply_data
reply_plain Done = only_plain 0 11 own.Done (bool_data true) (omega arith) (bool_plain 0 true)
reply_plain (Kept id version) = kept_plain 11 id version (omega arith)
reply_plain (Found policy) = only_plain 6 11 _ _ (omega arith) (policy_plain policy)
reply_plain (ListedPolicies policies) = only_plain 7 11 _ _ (omega arith) (policies_plain 7 policies (omega arith))
reply_plain (Downloaded download) = download_plain download
reply_plain (Refused rule) = only_plain 0 11 _ _ (omega arith) (rule_plain 0 rule)

refusal_plain : (r : Rule) → Plain 1 (refusal_data r)
unfolding refusal_data
refusal_plain r = only_plain 0 1 _ _ (omega arith) (rule_plain 0 r)

pub reply_has_no_float : (r : AdminReply) → has_float (reply_data r) ≡ false
reply_has_no_float r = (reply_plain r).0

pub kept_has_no_float : (id : PolicyId) (version : Version) → has_float (kept_data id version) ≡ false
kept_has_no_float id version = (kept_plain 1 id version (omega arith)).0

pub policies_have_no_float : (ps : Listed Policy) → has_float (policies_data ps) ≡ false
policies_have_no_float ps = (policies_plain 7 ps (omega arith)).0

pub refusal_has_no_float : (r : Rule) → has_float (refusal_data r) ≡ false
refusal_has_no_float r = (refusal_plain r).0

pub ruleset replies = (reply_has_no_float, kept_has_no_float, policies_have_no_float, refusal_has_no_float)
