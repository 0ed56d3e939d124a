-- What the change of a state rests on: lists that grow by one item alone, and in which a name or an id finds one item.
use Rattle.std.specs.Prelude.{◌≡◌, Bool, true}
use Rattle.std.specs.Ordering.{int_eq}
use Rattle.std.specs.Str.{bytes_eq}
use Rattle.rg_base.specs.Listed.{Listed}
use Rattle.rg_base.specs.Texts.{all_distinct}
use Rattle.rg_defs.specs.declared.service_def.ServiceDef.{ServiceDef}
use Rattle.rg_policy.specs.declared.policy.Policy.{Policy}
use Rattle.rg_roles.specs.declared.row.RoleRow.{RoleRow}
use Rattle.rg_tags.specs.declared.row.TagRow.{TagRow}
use Rattle.rg_zone_rules.specs.declared.row.ZoneRow.{ZoneRow}
use Rattle.rg_cmd.specs.declared.state.ServiceRow.{ServiceRow}
use Rattle.rg_cmd.specs.declared.state.State.{State}
use Rattle.rg_cmd.specs.declared.state.UserRow.{UserRow}

-- the list has no spare room, and no two of its items are the same
pub record IsTightList {X : Type 0} (same : X → X → Bool) (list : Listed X) : Type 0 where
  pub spare : list.spare ≡ 0
  pub distinct : all_distinct same list.items ≡ true

-- each list that a command changes is so: no two items have one name, and no two policies or tag rows one id
pub record IsTight (s : State) : Type 0 where
  pub users : IsTightList (λ (a b : UserRow). bytes_eq b.name a.name) s.users
  pub defs : IsTightList (λ (a b : ServiceDef). bytes_eq b.name a.name) s.defs
  pub services : IsTightList (λ (a b : ServiceRow). bytes_eq b.name a.name) s.services
  pub policies : IsTightList (λ (p q : Policy). int_eq p.id.0 q.id.0) s.policies
  pub zones : IsTightList (λ (a b : ZoneRow). bytes_eq b.name a.name) s.zones
  pub roles : IsTightList (λ (a b : RoleRow). bytes_eq b.name a.name) s.roles
  pub tag_rows : IsTightList (λ (a b : TagRow). int_eq a.id b.id) s.tag_rows
