-- A service's logs as the program holds them, and what the change under way is to do to them.
use Rattle.std.specs.Prelude.{ℕ, List, map}
use Rattle.rg_base.specs.Listed.{listed}
use Rattle.rg_cmd.specs.declared.ask.AdminCommand.{AdminCommand}
use Rattle.rg_cmd.specs.declared.changes.Log.{Log}
use Rattle.rg_cmd.specs.declared.changes.LogEntry.{LogEntry}
use Rattle.rg_cmd.specs.declared.changes.TagChange.{TagChange}
use Rattle.rg_cmd.specs.declared.state.State.{State}
use Rattle.rg_delta.specs.Logs.{Book}
use Rattle.rg_delta.specs.Touches.{touched}
use Rattle.rg_delta.specs.declared.touch.Touch.{Touch}
use Rattle.rg_delta.specs.declared.touch.Touch.TheVariants.{Leaves}
use Rattle.rg_admin_laws.specs.Logs.{Administration, policy_book, tag_book, version, written}
use Rattle.rg_admin_laws.specs.Touches.{policy_touch, tag_touch}

-- a log, and what is to be done to its policies and to its tag rows
pub record Planned : Type 0 where
  pub log : Log
  pub policies : Touch LogEntry
  pub tags : Touch TagChange

-- the service's log with these books
abbrev pub log_of : List ℕ → Book LogEntry → Book TagChange → Log
log_of service policies tags = record {
  service = service;
  policy_version = version policies.version;
  tag_version = version tags.version;
  policy_changes = listed policies.changes;
  tag_changes = listed tags.changes;
}

-- nothing is to be done
abbrev pub unplanned : Log → Planned
unplanned log = record { log = log; policies = Leaves; tags = Leaves }

abbrev pub planned : Planned → Touch LogEntry → Touch TagChange → Planned
planned p policies tags = record { log = p.log; policies = policies; tags = tags }

-- planned for this command
abbrev pub plan_for : State → AdminCommand → Planned → Planned
plan_for s c p = planned p (policy_touch s c p.log.service) (tag_touch s c p.log.service)

-- after the change
abbrev pub settled : Planned → Planned
settled p = unplanned (written p.log (touched p.policies (policy_book p.log)) (touched p.tags (tag_book p.log)))

abbrev pub logs_of : List Planned → List Log
logs_of ps = map (λ (p : Planned). p.log) ps

-- the administration of this state and these logs
abbrev pub administration_of : State → List Planned → Administration
administration_of s ps = record { state = s; logs = logs_of ps }
