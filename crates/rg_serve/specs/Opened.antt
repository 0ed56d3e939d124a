-- A service before it serves links: how it opens, is asked, and publishes what it was told. To be read first; then Served.
use Rattle.std.specs.Prelude.{◌≡◌, ℕ, ◌+◌, ◌++◌, List, [], ◌∷◌, length, Option, Some, None, option_map}
use Rattle.rg_cmd.specs.declared.ask.AdminReply.{AdminReply}
use Rattle.rg_cmd.specs.declared.ask.AdminReply.TheVariants.{Downloaded}
use Rattle.rg_cmd.specs.declared.ask.Ask.{Ask}
use Rattle.rg_cmd.specs.declared.config.Config.{Config}
use Rattle.rg_cmd.specs.declared.download.Download.{Download}
use Rattle.rg_cmd.specs.declared.rule.Rule.{Rule}
use Rattle.rg_turn.specs.History.{state_after}
use Rattle.rg_turn.specs.View.{entry}
use Rattle.rg_turn.specs.declared.rule.Entry.{Entry}
use Rattle.rg_admin_laws.specs.Logs.{Administration}
use Rattle.rg_admin_laws.specs.Machine.{download_ask, versions}
use Rattle.rg_admin_laws.specs.Steps.{step}
use Rattle.rg_admin_laws.specs.Views.{view}
use Rattle.rg_admin.specs.Starting.{started}
use Rattle.rg_publish.specs.Publications.{publication}
use Rattle.rg_publish.specs.declared.history.Publication.{Publication}
use Rattle.rg_session.specs.Refreshing.{HasRefreshed}
use Rattle.rg_session.specs.declared.refresher.Refresh.{Refresh}

-- the state in which the administration opened, its history as far as it is known, how many entries of it are the caller's own, the
-- publications, and the number of workers
pub record Opened : Type 0 where
  pub start : Administration
  pub history : List (Entry Ask AdminReply)
  pub calls : ℕ
  pub published : List Publication
  pub workers : ℕ

-- the administration starts, and the plugin's view is publication 1
abbrev pub opened : ℕ → Administration → Option Opened
opened workers a = option_map (λ facts. record { start = a; history = []; calls = 0; published = publication 1 0 facts ∷ []; workers = workers }) (view a a.state.plugin)

-- what a configuration opens; None where it breaks a rule
abbrev pub opened_unless : ℕ → Option Rule → Config → Option Opened
opened_unless workers None config = opened workers (started config)
opened_unless workers (Some rule) config = None

-- the administration after the history
abbrev pub present : Opened → Administration
present o = state_after step o.start o.history

-- all entries of the history are the caller's own
abbrev pub IsAlone : Opened → Type 0
IsAlone o = length o.history ≡ o.calls

-- the same service, with this as its history and one more call of the caller's own
abbrev pub called : Opened → List (Entry Ask AdminReply) → List Publication → Opened
called o history published = record o { history = history; calls = o.calls + 1; published = published }

-- the history goes on with the ask and the reply; where all entries are the caller's own then, they were before, and the reply is that of
-- the administration after these
pub record IsAsked (old : Opened) (ask : Ask) (reply : AdminReply) (new : Opened) : Type 0 where
  pub later : new ≡ called old new.history old.published
  pub alone : IsAlone new → IsAlone old × (reply ≡ (step (present old) ask).1) × (new.history ≡ old.history ++ entry ask reply ∷ [])

-- all entries are the caller's own, the last of them the plugin's download by the empty actor from the versions of the newest publication.
-- What the plugin sees after the entries before it is published, unless those versions are current
pub record IsRefreshed (old : Opened) (refresh : Refresh) (new : Opened) : Type 0 where
  pub later : new ≡ called old new.history new.published
  pub before : IsAlone old
  pub after : IsAlone new
  pub published : HasRefreshed old.start new.history (length old.history) old.published refresh new.published
  pub document : Download
  pub history : new.history ≡ old.history ++ entry (download_ask old.start.state.plugin (versions published.newest.facts)) (Downloaded document) ∷ []
