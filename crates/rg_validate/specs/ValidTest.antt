-- For proofs alone: the clauses of a valid state as one test, which `is_valid` answers.
use Rattle.std.specs.Prelude.{◌&&◌, Bool, is_none}
use Rattle.std.specs.List.{list_all}
use Rattle.rg_roles.specs.Faults.{fault_of}
use Rattle.rg_cmd.specs.declared.state.State.{State}
use Rattle.rg_validate.specs.Users.{time_zones_read}
use Rattle.rg_validate.specs.Valid.{are_distinct, definition_valid, policy_valid, service_valid, tag_row_valid, zone_valid}
use Rattle.rg_validate.specs.Zones.{are_apart}

abbrev pub state_valid : State → Bool
state_valid s = list_all definition_valid s.defs.items
    && (time_zones_read s
    && (list_all (service_valid s) s.services.items
    && (list_all (policy_valid s) s.policies.items
    && (list_all (zone_valid s) s.zones.items
    && (are_apart s s.zones.items
    && (list_all (tag_row_valid s) s.tag_rows.items
    && (is_none (fault_of s.roles.items)
    && are_distinct s)))))))
