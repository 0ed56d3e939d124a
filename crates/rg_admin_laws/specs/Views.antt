-- What a service's plugin sees of an administration.
use Rattle.std.specs.Prelude.{ℕ, List, filter, Option, Some, None, option_and_then}
use Rattle.rg_base.specs.Listed.{listed}
use Rattle.rg_policy.specs.declared.policy.Policy.{Policy}
use Rattle.rg_defs.specs.declared.service_def.ServiceDef.{ServiceDef}
use Rattle.rg_tags.specs.declared.row.TagRow.{TagRow}
use Rattle.rg_facts.specs.declared.facts.Facts.{Facts}
use Rattle.rg_cmd.specs.Lookups.{def_of, is_of, is_of_tag, is_row_of, service_at, tag_service_of}
use Rattle.rg_cmd.specs.declared.changes.Log.{Log}
use Rattle.rg_cmd.specs.declared.state.ServiceRow.{ServiceRow}
use Rattle.rg_cmd.specs.declared.state.State.{State}
use Rattle.rg_admin_laws.specs.Logs.{Administration, log_at}

-- ---- what is of a service, in order of creation

-- the definition of the service's tag service, if it has one
abbrev pub tag_def_of : State → List ℕ → Option ServiceDef
tag_def_of s service = option_and_then (def_of s) (tag_service_of s service)

abbrev pub policies_of : State → List ℕ → List Policy
policies_of s service = filter (is_of service) s.policies.items

-- the policies of the service's tag service
abbrev pub tag_policies_of : State → List ℕ → List Policy
tag_policies_of s service = filter (is_of_tag (tag_service_of s service)) s.policies.items

abbrev pub tag_rows_of : State → List ℕ → List TagRow
tag_rows_of s service = filter (is_row_of service) s.tag_rows.items

-- ---- the view

-- the facts of a service with this log, row and definition: all zones, roles and time zones, and of the rest its own
abbrev pub facts_of : List ℕ → State → Log → ServiceRow → ServiceDef → Facts
facts_of service s log row def = record {
  service = service;
  fallback = row.fallback;
  def = def;
  tag_def = tag_def_of s service;
  policies = listed (policies_of s service);
  tag_policies = listed (tag_policies_of s service);
  zones = s.zones;
  roles = s.roles;
  tag_rows = listed (tag_rows_of s service);
  time_zones = s.time_zones;
  policy_version = log.policy_version;
  tag_version = log.tag_version;
  role_version = s.role_version;
}

abbrev pub facts_with : List ℕ → State → Option Log → Option ServiceRow → Option ServiceDef → Option Facts
facts_with service s (Some log) (Some row) (Some def) = Some (facts_of service s log row def)
facts_with service s (Some log) (Some row) None = None
facts_with service s (Some log) None def = None
facts_with service s None row def = None

-- the facts of the service, if there is one of this name
abbrev pub view : Administration → List ℕ → Option Facts
view a service = facts_with service a.state (log_at a.logs service) (service_at a.state service) (def_of a.state service)
