-- A service as the plugin's view and downloads are made of it.
use Rattle.rg_facts.specs.declared.facts.Facts.{Facts}
use Rattle.rg_cmd.specs.declared.changes.Log.{Log}

-- the log of a service, and the facts that its plugin sees
pub record Served : Type 0 where
  pub log : Log
  pub facts : Facts
