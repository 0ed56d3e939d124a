-- The accesses of a policy.
use Rattle.std.specs.Prelude.{ℕ, ◌||◌, Bool, true, false, List, [], ◌∷◌, map, if◌then◌else◌}
use Rattle.std.specs.List.{flat_map}
use Rattle.rg_defs.specs.declared.service_def.AccessType.{AccessType}
use Rattle.rg_defs.specs.declared.service_def.ServiceDef.{ServiceDef}
use Rattle.rg_policy.specs.declared.policy.AccessEntry.{AccessEntry}
use Rattle.rg_policy.specs.declared.policy.Item.{Item}
use Rattle.rg_policy.specs.declared.policy.Policy.{Policy}
use Rattle.rg_policy.specs.Kinds.{item_lists}

abbrev pub item_accesses : Item → List (List ℕ)
item_accesses i = map (λ (e : AccessEntry). e.access) i.accesses.items

-- those that the entries of the policy's items name, allowed or not
abbrev pub named_accesses : Policy → List (List ℕ)
named_accesses p = flat_map (λ (items : List Item). flat_map item_accesses items) (item_lists p)

-- all access types of the definition
abbrev pub all_accesses : ServiceDef → List (List ℕ)
all_accesses def = map (λ (t : AccessType). t.name) def.access_types.items

abbrev pub is_none_named : List (List ℕ) → Bool
is_none_named [] = true
is_none_named (a ∷ accesses) = false

-- what no item allows is denied, or the items name no access
abbrev pub is_for_all : Policy → Bool
is_for_all p = p.deny_all_else || is_none_named (named_accesses p)

-- the accesses of a policy: those that its items name, or all of the definition
abbrev pub accesses : ServiceDef → Policy → List (List ℕ)
accesses def p = if is_for_all p then all_accesses def else named_accesses p
