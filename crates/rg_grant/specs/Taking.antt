-- What a row takes from items. To be read first; then Forms, Planning, Steps, Permissions, Allowing
-- and InForce. Rows has the JSON of a row.
use Rattle.std.specs.Prelude.{ℕ, ◌&&◌, not, nat_lt, true, false, Bool, List, [], ◌∷◌, length, filter, flat_map, if◌then◌else◌}
use Rattle.rg_base.specs.Listed.{listed}
use Rattle.rg_base.specs.Texts.{is_among}
use Rattle.rg_policy.specs.declared.policy.AccessEntry.{AccessEntry}
use Rattle.rg_policy.specs.declared.policy.Item.{Item}
use Rattle.rg_items.specs.PolicyRules.{has_subject}
use Rattle.rg_grant.specs.declared.row.GrantRow.{GrantRow}

-- those of the texts that are among the names, or else those that aren't
abbrev pub parted : Bool → List (List ℕ) → List (List ℕ) → List (List ℕ)
parted named names texts = filter (λ t. if named then is_among t names else not (is_among t names)) texts

-- the item with those of its subjects that the row names, or else with those that it doesn't name
abbrev pub with_subjects : Bool → GrantRow → Item → Item
with_subjects named g i = record i {
  users = listed (parted named g.users.items i.users.items);
  groups = listed (parted named g.groups.items i.groups.items);
  roles = listed (parted named g.roles.items i.roles.items);
}

-- those of the entries whose access type the row doesn't name
abbrev pub entries_left : GrantRow → List AccessEntry → List AccessEntry
entries_left g entries = filter (λ (e : AccessEntry). not (is_among e.access g.accesses.items)) entries

-- the item with the subjects that the row doesn't name, and all its entries
unfoldable pub others_part : GrantRow → Item → Item
others_part g i = with_subjects false g i

-- the item with the subjects that the row names, and the entries whose access type it doesn't name
unfoldable pub named_part : GrantRow → Item → Item
named_part g i = record (with_subjects true g i) { accesses = listed (entries_left g i.accesses.items) }

-- it has a subject and an entry
abbrev pub says_something : Item → Bool
says_something i = has_subject i && nat_lt 0 (length i.accesses.items)

-- what is left of an item: the two parts, without one that has no subject or no entry
abbrev pub parts_left : GrantRow → Item → List Item
parts_left g i = filter says_something (others_part g i ∷ named_part g i ∷ [])

-- what the row leaves of the items, each in its place
abbrev pub items_left : GrantRow → List Item → List Item
items_left g items = flat_map (parts_left g) items
