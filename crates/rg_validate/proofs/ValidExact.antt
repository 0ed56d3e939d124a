-- The test of a valid state says exactly that it is valid.
use Rattle.std.proofs.Common.{◌≡◌, ◌↔◌, true, IsTrue}
use Rattle.std.proofs.lemmas.Bool.{and_from, and_parts}
use Rattle.rg_cmd.specs.declared.state.State.{State}
use Rattle.rg_validate.specs.Valid.{IsValid}
use Rattle.rg_validate.specs.ValidTest.{state_valid}

valid_of : (s : State) → state_valid s ≡ true → IsValid s
valid_of s h =
    let definitions = and_parts _ _ h in
    let time_zones = and_parts _ _ definitions.1 in
    let services = and_parts _ _ time_zones.1 in
    let policies = and_parts _ _ services.1 in
    let zones = and_parts _ _ policies.1 in
    let apart = and_parts _ _ zones.1 in
    let tag_rows = and_parts _ _ apart.1 in
    let roles = and_parts _ _ tag_rows.1 in
    let definition_names = and_parts _ _ roles.1 in
    let service_names = and_parts _ _ definition_names.1 in
    let zone_names = and_parts _ _ service_names.1 in
    let user_names = and_parts _ _ zone_names.1 in
    let ids = and_parts _ _ user_names.1 in
    record {
      definitions = definitions.0;
      services = services.0;
      policies = policies.0;
      zones = zones.0;
      apart = apart.0;
      tag_rows = tag_rows.0;
      time_zones = time_zones.0;
      roles = roles.0;
      definition_names = definition_names.0;
      service_names = service_names.0;
      zone_names = zone_names.0;
      user_names = user_names.0;
      policy_ids = ids.0;
      tag_row_ids = ids.1;
    }

test_of : (s : State) → IsValid s → state_valid s ≡ true
test_of s valid =
    let names = and_from _ _ valid.zone_names (and_from _ _ valid.user_names (and_from _ _ valid.policy_ids valid.tag_row_ids)) in
    let distinct = and_from _ _ valid.definition_names (and_from _ _ valid.service_names names) in
    let rest = and_from _ _ valid.apart (and_from _ _ valid.tag_rows (and_from _ _ valid.roles distinct)) in
    and_from _ _ valid.definitions (and_from _ _ valid.time_zones (and_from _ _ valid.services (and_from _ _ valid.policies (and_from _ _ valid.zones rest))))

pub valid_exact : (s : State) → IsTrue (state_valid s) ↔ IsValid s
valid_exact s = (valid_of s, test_of s)
