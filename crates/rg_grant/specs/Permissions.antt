-- What items say of one subject and one access entry.
use Rattle.std.specs.Prelude.{◌≡◌, ℕ, ◌&&◌, Bool, true, List}
use Rattle.std.specs.List.{Contains}
use Rattle.rg_base.specs.Listed.{Listed}
use Rattle.rg_base.specs.Texts.{is_among}
use Rattle.rg_policy.specs.declared.policy.AccessEntry.{AccessEntry}
use Rattle.rg_policy.specs.declared.policy.Item.{Item}
use Rattle.rg_policy.specs.declared.policy.PolicyCondition.{PolicyCondition}
use Rattle.rg_grant.specs.declared.row.GrantRow.{GrantRow}

-- a user, a group or a role, by name
pub data Subject : Type 0 where
  User : List ℕ → Subject
  Group : List ℕ → Subject
  Role : List ℕ → Subject

-- a subject and an access entry, with the conditions and the delegation that go with them
pub record Permission : Type 0 where
  pub subject : Subject
  pub entry : AccessEntry
  pub conditions : Listed PolicyCondition
  pub delegate : Bool

abbrev pub item_names : Subject → Item → Bool
item_names (User name) i = is_among name i.users.items
item_names (Group name) i = is_among name i.groups.items
item_names (Role name) i = is_among name i.roles.items

abbrev pub row_names : Subject → GrantRow → Bool
row_names (User name) g = is_among name g.users.items
row_names (Group name) g = is_among name g.groups.items
row_names (Role name) g = is_among name g.roles.items

-- the item names the subject, and has the entry, these conditions and this delegation
pub record Gives (i : Item) (p : Permission) : Type 0 where
  pub names : item_names p.subject i ≡ true
  pub grants : Contains i.accesses.items p.entry
  pub conditioned : i.conditions ≡ p.conditions
  pub delegates : i.delegate ≡ p.delegate

-- some item does
abbrev pub IsGiven : List Item → Permission → Type 0
IsGiven items p = (i : Item) × Contains items i × Gives i p

-- the row names both the subject and the access type of the entry
abbrev pub names_both : GrantRow → Permission → Bool
names_both g p = row_names p.subject g && is_among p.entry.access g.accesses.items
