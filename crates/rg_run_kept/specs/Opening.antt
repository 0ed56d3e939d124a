-- A service that is kept, as it begins.
use Rattle.std.specs.Prelude.{◌≡◌, ℕ}
use Rattle.rg_cmd.specs.declared.config.Config.{Config}
use Rattle.rg_admin.specs.Starting.{started}
use Rattle.rg_serve.specs.Opened.{Opened}

-- its history goes on from the start of the configuration, and it has so many workers
pub record Begins (config : Config) (workers : ℕ) (o : Opened) : Type 0 where
  pub start : o.start ≡ started config
  pub workers_are : o.workers ≡ workers
