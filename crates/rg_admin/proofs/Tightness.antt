-- For proofs alone: a state that is kept is tight where no list of it has spare room.
use Rattle.std.proofs.Common.{◌≡◌, ◌↔◌, true, List, Option, Some, None, is_none, refl}
use Rattle.std.proofs.lemmas.Bool.{false≢true}
use Rattle.rg_roles.specs.Faults.{AreSound, fault_of}
use Rattle.rg_roles.specs.declared.fault.RoleFault.{RoleFault}
use Rattle.rg_roles.specs.declared.row.RoleRow.{RoleRow}
use Rattle.rg_cmd.specs.declared.state.State.{State}
use Rattle.rg_validate.specs.Valid.{IsKept}
use Rattle.rg_admin.specs.Reached.{IsPacked}
use Rattle.rg_admin.specs.Tight.{IsTight}

no_fault : (o : Option RoleFault) → is_none o ≡ true → o ≡ None
no_fault None h = refl
no_fault (Some fault) h = absurd (false≢true h)

-- its lists have distinct names and ids
pub kept_tight : ((rows : List RoleRow) → (fault_of rows ≡ None) ↔ AreSound rows) → (s : State) → IsKept s → IsPacked s → IsTight s
kept_tight in_lists s kept packed = record {
  users = record { spare = packed.users; distinct = kept.valid.user_names };
  defs = record { spare = packed.defs; distinct = kept.valid.definition_names };
  services = record { spare = packed.services; distinct = kept.valid.service_names };
  policies = record { spare = packed.policies; distinct = kept.valid.policy_ids };
  zones = record { spare = packed.zones; distinct = kept.valid.zone_names };
  roles = record { spare = packed.roles; distinct = ((in_lists s.roles.items).0 (no_fault (fault_of s.roles.items) kept.valid.roles)).distinct };
  tag_rows = record { spare = packed.tag_rows; distinct = kept.valid.tag_row_ids };
}
