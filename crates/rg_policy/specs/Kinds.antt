-- The numbers of policy types and priorities, and the lists of items.
use Rattle.std.specs.Prelude.{ℤ, pos, Bool, List, [], ◌∷◌}
use Rattle.std.specs.List.{list_all}
use Rattle.rg_policy.specs.declared.policy.Item.{Item}
use Rattle.rg_policy.specs.declared.policy.Policy.{Policy}

-- policies of type 0 give access, those of type 1 mask values, those of type 2 filter rows
abbrev pub access_policy : ℤ
access_policy = pos 0

abbrev pub mask_policy : ℤ
mask_policy = pos 1

abbrev pub filter_policy : ℤ
filter_policy = pos 2

-- policies of priority 1 go before those of priority 0
abbrev pub normal : ℤ
normal = pos 0

abbrev pub overriding : ℤ
overriding = pos 1

-- all lists of items of a policy
abbrev pub item_lists : Policy → List (List Item)
item_lists p = p.items.items ∷ p.deny_items.items ∷ p.allow_exceptions.items ∷ p.deny_exceptions.items ∷ p.mask_items.items ∷ p.filter_items.items ∷ []

-- every item of the policy passes
abbrev pub every_item : (Item → Bool) → Policy → Bool
every_item test p = list_all (list_all test) (item_lists p)
