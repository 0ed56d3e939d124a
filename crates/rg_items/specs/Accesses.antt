-- Which access entries grant what is asked.
use Rattle.std.specs.Prelude.{ℕ, ◌&&◌, Bool, List}
use Rattle.std.specs.List.{list_any}
use Rattle.rg_policy.specs.declared.policy.AccessEntry.{AccessEntry}
use Rattle.rg_defs.specs.declared.service_def.ServiceDef.{ServiceDef}
use Rattle.rg_defs.specs.Grants.{grants}

-- the entry is allowed, and its access type is the asked one or lists it as implied
abbrev pub entry_grants : ServiceDef → List ℕ → AccessEntry → Bool
entry_grants def asked entry = entry.allowed && grants def entry.access asked

abbrev pub any_grants : ServiceDef → List ℕ → List AccessEntry → Bool
any_grants def asked entries = list_any (entry_grants def asked) entries
