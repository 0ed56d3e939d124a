-- Whom facts name: the users and groups of all items and of all role rows. To be read first; then Ordered, Strangers, Rows, Laws; Asks and Printing have the JSON.
use Rattle.std.specs.Prelude.{ℕ, ◌||◌, not, Bool, List, ◌++◌, filter}
use Rattle.std.specs.List.{flat_map}
use Rattle.std.specs.Str.{bytes_eq}
use Rattle.rg_policy.specs.Kinds.{item_lists}
use Rattle.rg_policy.specs.declared.policy.Item.{Item}
use Rattle.rg_policy.specs.declared.policy.Policy.{Policy}
use Rattle.rg_roles.specs.declared.row.RoleRow.{RoleRow}
use Rattle.rg_items.specs.Subjects.{owner_word, user_word}
use Rattle.rg_facts.specs.declared.facts.Facts.{Facts}
use Rattle.rg_acl.specs.declared.named.Listing.{Listing}
use Rattle.rg_acl.specs.declared.named.Listing.TheVariants.{Users, Groups}

-- `{USER}` and `{OWNER}` are no names
abbrev pub is_word : List ℕ → Bool
is_word text = bytes_eq text user_word || bytes_eq text owner_word

abbrev pub names_in : List (List ℕ) → List (List ℕ)
names_in texts = filter (λ t. not (is_word t)) texts

-- the users or the groups of an item, and of a role row
abbrev pub of_item : Listing → Item → List (List ℕ)
of_item Users item = item.users.items
of_item Groups item = item.groups.items

abbrev pub of_row : Listing → RoleRow → List (List ℕ)
of_row Users row = row.users.items
of_row Groups row = row.groups.items

abbrev pub named_by_items : Listing → List Item → List (List ℕ)
named_by_items listing items = flat_map (λ i. names_in (of_item listing i)) items

-- those of all its items
abbrev pub named_by_policy : Listing → Policy → List (List ℕ)
named_by_policy listing p = flat_map (named_by_items listing) (item_lists p)

abbrev pub named_by_policies : Listing → List Policy → List (List ℕ)
named_by_policies listing policies = flat_map (named_by_policy listing) policies

abbrev pub named_by_rows : Listing → List RoleRow → List (List ℕ)
named_by_rows listing rows = flat_map (λ row. names_in (of_row listing row)) rows

-- the users or the groups that the policies, the tag policies and the role rows name
abbrev pub named : Listing → Facts → List (List ℕ)
named listing facts =
    named_by_policies listing facts.policies.items
    ++ (named_by_policies listing facts.tag_policies.items ++ named_by_rows listing facts.roles.items)
