-- The rules of a service definition, and the first that fails.
use Rattle.std.specs.Prelude.{ℕ, ◌&&◌, ◌||◌, not, Bool, false, nat_le, int_lt, codes, List, [], ◌∷◌, length, Option, option_map}
use Rattle.std.specs.List.{find, list_all, list_any}
use Rattle.std.specs.Str.{bytes_eq}
use Rattle.rg_base.specs.Texts.{all_distinct, is_empty, is_name}
use Rattle.rg_defs.specs.declared.service_def.AccessType.{AccessType}
use Rattle.rg_defs.specs.declared.service_def.ConditionDef.{ConditionDef}
use Rattle.rg_defs.specs.declared.service_def.Level.{Level}
use Rattle.rg_defs.specs.declared.service_def.MaskType.{MaskType}
use Rattle.rg_defs.specs.declared.service_def.ServiceDef.{ServiceDef}

-- so many at least, and so many at most
abbrev pub has_from_to : ℕ → ℕ → ℕ → Bool
has_from_to low high n = nat_le low n && nat_le n high

abbrev pub has_level : List Level → List ℕ → Bool
has_level levels name = list_any (λ (l : Level). bytes_eq l.name name) levels

abbrev pub has_access_type : List AccessType → List ℕ → Bool
has_access_type types name = list_any (λ (t : AccessType). bytes_eq t.name name) types

-- S1: the name has 1 to 256 characters
abbrev pub name_rule : ServiceDef → Bool
name_rule def = is_name def.name

-- S2: there are 1 to 16 levels with distinct names of 1 to 256 characters
abbrev pub levels_rule : List Level → Bool
levels_rule levels = has_from_to 1 16 (length levels)
    && list_all (λ (l : Level). is_name l.name) levels
    && all_distinct (λ (l m : Level). bytes_eq m.name l.name) levels

-- the level has this name, and a smaller number than that of the child
abbrev pub is_parent : Level → Level → Bool
is_parent child l = bytes_eq l.name child.parent && int_lt l.level child.level

-- S3: each parent is empty or names a level whose number is smaller than the child's
abbrev pub parents_rule : List Level → Bool
parents_rule levels = list_all (λ (l : Level). is_empty l.parent || list_any (is_parent l) levels) levels

-- S4: there are 1 to 1,024 access types with distinct names of 1 to 256 characters
abbrev pub access_types_rule : List AccessType → Bool
access_types_rule types = has_from_to 1 1024 (length types)
    && list_all (λ (t : AccessType). is_name t.name) types
    && all_distinct (λ (t u : AccessType). bytes_eq u.name t.name) types

-- S5: each implied grant names an access type of the definition
abbrev pub implied_rule : List AccessType → Bool
implied_rule types = list_all (λ (t : AccessType). list_all (has_access_type types) t.implied.items) types

-- S6: there are at most 64 conditions, with distinct names that aren't empty
abbrev pub conditions_rule : List ConditionDef → Bool
conditions_rule conditions = nat_le (length conditions) 64
    && list_all (λ (c : ConditionDef). not (is_empty c.name)) conditions
    && all_distinct (λ (c d : ConditionDef). bytes_eq d.name c.name) conditions

-- S7: there are at most 64 mask types with distinct names that aren't empty, and the access types and levels of the mask part and of the filter part are those of the definition
abbrev pub masks_rule : List MaskType → Bool
masks_rule masks = nat_le (length masks) 64
    && list_all (λ (m : MaskType). not (is_empty m.name)) masks
    && all_distinct (λ (m n : MaskType). bytes_eq n.name m.name) masks

abbrev pub parts_rule : ServiceDef → Bool
parts_rule def = list_all (has_access_type def.access_types.items) def.mask_access.items
    && list_all (has_level def.levels.items) def.mask_levels.items
    && list_all (has_access_type def.access_types.items) def.filter_access.items
    && list_all (has_level def.levels.items) def.filter_levels.items

unfoldable pub tag_name : List ℕ
tag_name = codes "tag"

abbrev pub is_tag_level : List Level → Bool
is_tag_level [] = false
is_tag_level (l ∷ []) = bytes_eq l.name tag_name
is_tag_level (l ∷ m ∷ ls) = false

-- S8: where the name is `tag`, the only level is `tag`
abbrev pub tag_rule : ServiceDef → Bool
tag_rule def = not (bytes_eq def.name tag_name) || is_tag_level def.levels.items

-- the rules in order, each with its number
abbrev pub rules_of : ServiceDef → List (ℕ × Bool)
rules_of def =
    (1, name_rule def)
    ∷ (2, levels_rule def.levels.items)
    ∷ (3, parents_rule def.levels.items)
    ∷ (4, access_types_rule def.access_types.items)
    ∷ (5, implied_rule def.access_types.items)
    ∷ (6, conditions_rule def.conditions.items)
    ∷ (7, masks_rule def.masks.items && parts_rule def)
    ∷ (8, tag_rule def) ∷ []

-- the least rule that fails
unfoldable pub def_fault : ServiceDef → Option ℕ
def_fault def = option_map (λ (r : ℕ × Bool). r.0) (find (λ (r : ℕ × Bool). not r.1) (rules_of def))
