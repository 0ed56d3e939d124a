-- What serving links leaves. To be read after Trails.
use Rattle.std.specs.Prelude.{◌≡◌, ◌<◌, ◌-◌, ℕ, ◌++◌, ◌∷◌, [], List, length, slice_get, take, true, Some}
use Rattle.logbook.specs.Pages.{Book}
use Rattle.rg_facts.specs.declared.facts.Facts.{Facts}
use Rattle.rg_cmd.specs.declared.ask.AdminReply.{AdminReply}
use Rattle.rg_cmd.specs.declared.ask.Ask.{Ask}
use Rattle.rg_turn.specs.History.{state_after}
use Rattle.rg_turn.specs.Values.{TurnName}
use Rattle.rg_turn.specs.declared.rule.Entry.{Entry}
use Rattle.rg_admin_laws.specs.Logs.{Administration}
use Rattle.rg_admin_laws.specs.Machine.{Versions, download_ask, same_versions, versions}
use Rattle.rg_admin_laws.specs.Steps.{step}
use Rattle.rg_admin_laws.specs.Views.{view}
use Rattle.rg_publish.specs.declared.history.Publication.{Publication}
use Rattle.rg_serve.specs.Opened.{Opened}
use Rattle.rg_serve.specs.Trails.{AreServed, Seated}
use Rattle.rg_serve.specs.declared.serving.ServeFault.{ServeFault}
use Rattle.rg_serve.specs.declared.serving.ServeFault.TheVariants.{Failed, NoMemory}

-- the listener's count of faults rises where the fault is the listener's, and else stands still
abbrev pub Counts : ServeFault → ℕ → ℕ → Type 0
Counts Failed before after = before < after
Counts NoMemory before after = after ≡ before

-- the past ends with a download of the plugin, and the newest publication has the versions of what the plugin saw after all entries before it
pub record IsCurrent (start : Administration) (past : List (Entry Ask AdminReply)) (list : List Publication) : Type 0 where
  pub before : List (Entry Ask AdminReply)
  pub last : Entry Ask AdminReply
  pub past_is : past ≡ before ++ last ∷ []
  pub from : Versions
  pub ask : last.ask ≡ download_ask start.state.plugin from
  pub newest : Publication
  pub newest_is : slice_get list (length list - 1) ≡ Some newest
  pub present : Facts
  pub viewed : view (state_after step start before) start.state.plugin ≡ Some present
  pub current : same_versions (versions newest.facts) (versions present) ≡ true

-- all decisions were by this list of publications. The workers began with new seats of the turn, and with passes that had seen the first
-- publication; the refresher began with the seat through which the service was asked before
pub record HasServed (o : Opened) (links : ℕ) (past : List (Entry Ask AdminReply)) (list : List Publication) (decisions : ℕ) : Type 0 where
  pub turn : TurnName Administration
  pub book : Book
  pub refresher : Seated
  pub history : refresher.history ≡ o.history
  pub calls : length refresher.calls ≡ o.calls
  pub served : AreServed turn (record { book = book; list = take 1 o.published }) o.start.state.plugin refresher o.workers links past list decisions
