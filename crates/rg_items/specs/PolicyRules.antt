-- The rules of a policy that look at types, items, subjects and outcomes. Those of resources stand in rg_resmatch, those of conditions and schedules in rg_cond.
use Rattle.std.specs.Prelude.{ℕ, ℤ, ◌&&◌, ◌||◌, not, nat_lt, true, false, codes, Bool, List, [], ◌∷◌, length, Option, Some, None, is_some, if◌then◌else◌}
use Rattle.std.specs.List.{list_all, list_any}
use Rattle.std.specs.Ordering.{int_eq}
use Rattle.std.specs.Str.{bytes_eq}
use Rattle.rg_base.specs.Texts.{is_among, is_empty}
use Rattle.rg_policy.specs.declared.policy.AccessEntry.{AccessEntry}
use Rattle.rg_policy.specs.declared.policy.Item.{Item}
use Rattle.rg_policy.specs.declared.policy.MaskInfo.{MaskInfo}
use Rattle.rg_policy.specs.declared.policy.Policy.{Policy}
use Rattle.rg_policy.specs.Kinds.{access_policy, every_item, filter_policy, mask_policy, normal, overriding}
use Rattle.rg_defs.specs.Grants.{access_type_of}
use Rattle.rg_defs.specs.declared.service_def.MaskType.{MaskType}
use Rattle.rg_defs.specs.declared.service_def.ServiceDef.{ServiceDef}

-- the first answer for policies that mask, the second for those that filter rows, else the third
abbrev pub by_type : ℤ → Bool → Bool → Bool → Bool
by_type kind masks filters other = if int_eq kind mask_policy then masks else (if int_eq kind filter_policy then filters else other)

-- V3: the type is 0, 1 or 2; for 1 the definition has mask types, for 2 it has filter access types
abbrev pub type_fits : ServiceDef → Policy → Bool
type_fits def p = by_type p.policy_type (nat_lt 0 (length def.masks.items)) (nat_lt 0 (length def.filter_access.items)) (int_eq p.policy_type access_policy)

-- V4: the priority is 0 or 1
abbrev pub priority_fits : Policy → Bool
priority_fits p = int_eq p.priority normal || int_eq p.priority overriding

abbrev pub is_no_item : List Item → Bool
is_no_item [] = true
is_no_item (i ∷ items) = false

-- no item allows or denies, and what no item allows isn't denied
abbrev pub decides_no_access : Policy → Bool
decides_no_access p = is_no_item p.items.items
    && (is_no_item p.deny_items.items
    && (is_no_item p.allow_exceptions.items
    && (is_no_item p.deny_exceptions.items
    && not p.deny_all_else)))

abbrev pub has_no_mask : Policy → Bool
has_no_mask p = is_no_item p.mask_items.items

abbrev pub has_no_filter : Policy → Bool
has_no_filter p = is_no_item p.filter_items.items

-- V7: type 0 has no mask or filter items; type 1 has mask items alone, type 2 filter items alone, and neither denies all else
abbrev pub lists_fit : Policy → Bool
lists_fit p = by_type p.policy_type (decides_no_access p && has_no_filter p) (decides_no_access p && has_no_mask p) (has_no_mask p && has_no_filter p)

-- the entry names an access type of the definition, for type 1 or 2 of the part
abbrev pub entry_fits : ServiceDef → ℤ → AccessEntry → Bool
entry_fits def kind entry = by_type kind (is_among entry.access def.mask_access.items) (is_among entry.access def.filter_access.items) (is_some (access_type_of def entry.access))

abbrev pub item_entries_fit : ServiceDef → ℤ → Item → Bool
item_entries_fit def kind i = nat_lt 0 (length i.accesses.items) && list_all (entry_fits def kind) i.accesses.items

-- V8: each item has at least one access entry, and each names an access type of the definition, for type 1 or 2 of the part
abbrev pub entries_fit : ServiceDef → Policy → Bool
entries_fit def p = every_item (item_entries_fit def p.policy_type) p

abbrev pub has_subject : Item → Bool
has_subject i = nat_lt 0 (length i.users.items) || (nat_lt 0 (length i.groups.items) || nat_lt 0 (length i.roles.items))

-- the texts are all among the names
abbrev pub all_among : List (List ℕ) → List (List ℕ) → Bool
all_among names texts = list_all (λ t. is_among t names) texts

abbrev pub item_subjects_fit : List (List ℕ) → Item → Bool
item_subjects_fit roles i = has_subject i && all_among roles i.roles.items

-- V10: each item names at least one user, group or role, and each role is one of these
abbrev pub subjects_fit : List (List ℕ) → Policy → Bool
subjects_fit roles p = every_item (item_subjects_fit roles) p

-- the mask type that has an expression of its own
unfoldable pub custom : List ℕ
custom = codes "CUSTOM"

-- the kind is a mask type of the definition
abbrev pub has_mask_type : ServiceDef → List ℕ → Bool
has_mask_type def kind = list_any (λ (m : MaskType). bytes_eq m.name kind) def.masks.items

abbrev pub mask_info_fits : ServiceDef → MaskInfo → Bool
mask_info_fits def m = has_mask_type def m.kind && (not (bytes_eq m.kind custom) || not (is_empty m.value_expr))

-- there is a mask whose kind is a mask type, and whose expression isn't empty where the kind is `CUSTOM`
abbrev pub mask_fits : ServiceDef → Option MaskInfo → Bool
mask_fits def None = false
mask_fits def (Some m) = mask_info_fits def m

-- there is a filter that isn't empty
abbrev pub filter_fits : Option (List ℕ) → Bool
filter_fits None = false
filter_fits (Some t) = not (is_empty t)

-- V11: each mask item has such a mask, and each filter item such a filter
abbrev pub outcomes_fit : ServiceDef → Policy → Bool
outcomes_fit def p = list_all (λ (i : Item). mask_fits def i.mask) p.mask_items.items && list_all (λ (i : Item). filter_fits i.filter) p.filter_items.items
