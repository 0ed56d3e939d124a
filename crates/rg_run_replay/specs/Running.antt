-- An administration that is running, with what is published to its plugin: how it starts, is asked, and is refreshed.
use Rattle.std.specs.Prelude.{◌≡◌, ℕ, ◌+◌, ◌-◌, ◌++◌, List, [], ◌∷◌, length, slice_get, Option, Some, None, option_map, if◌then◌else◌}
use Rattle.rg_base.specs.declared.numbers.Serial.{Serial}
use Rattle.rg_cmd.specs.declared.ask.AdminReply.{AdminReply}
use Rattle.rg_cmd.specs.declared.ask.AdminReply.TheVariants.{Downloaded}
use Rattle.rg_cmd.specs.declared.ask.Ask.{Ask}
use Rattle.rg_cmd.specs.declared.config.Config.{Config}
use Rattle.rg_cmd.specs.declared.rule.Rule.{Rule}
use Rattle.rg_admin_laws.specs.Leading.{led}
use Rattle.rg_admin_laws.specs.Logs.{Administration}
use Rattle.rg_admin_laws.specs.Machine.{download_ask, is_unchanged, versions}
use Rattle.rg_admin_laws.specs.Steps.{step}
use Rattle.rg_admin_laws.specs.Views.{view}
use Rattle.rg_session.specs.Starting.{started}
use Rattle.rg_publish.specs.Publications.{publication}
use Rattle.rg_publish.specs.declared.history.Publication.{Publication}
use Rattle.rg_session.specs.declared.refresher.Refresh.{Refresh}
use Rattle.rg_session.specs.declared.refresher.Refresh.TheVariants.{Unchanged, Published}

-- an administration, its plugin's service, and all that was published to it
pub record Running : Type 0 where
  pub admin : Administration
  pub plugin : List ℕ
  pub published : List Publication

abbrev pub running : Administration → List ℕ → List Publication → Running
running admin plugin published = record { admin = admin; plugin = plugin; published = published }

-- the newest publication
abbrev pub newest : Running → Option Publication
newest r = slice_get r.published (length r.published - 1)

-- the administration starts, and the plugin's view is publication 1
abbrev pub opened : Administration → Option Running
opened a = option_map (λ facts. running a a.state.plugin (publication 1 0 facts ∷ [])) (view a a.state.plugin)

-- what a configuration starts; None where it breaks a rule
abbrev pub opened_unless : Option Rule → Config → Option Running
opened_unless None config = opened (started config)
opened_unless (Some rule) config = None

-- the administration after an ask; nothing is published
abbrev pub asked : Running → Ask → Running
asked r ask = record r { admin = (step r.admin ask).0 }

-- a refresh asks for the plugin's download by the empty actor, from the versions of a publication
abbrev pub refresh_ask : Running → Publication → Ask
refresh_ask r p = download_ask r.plugin (versions p.facts)

-- what is published after p, the n-th: unless nothing in the document changed, the facts to which it leads, with the next serial
abbrev pub next_by : ℕ → Publication → AdminReply → Option Publication
next_by n p (Downloaded d) = if is_unchanged d then None else Some (publication (n + 1) d.seq (led p.facts d))
next_by n p reply = None

-- what a refresh publishes after the newest publication
abbrev pub refresh_publishes : Running → Publication → Option Publication
refresh_publishes r p = next_by (length r.published) p (step r.admin (refresh_ask r p)).1

abbrev pub with_next : List Publication → Option Publication → List Publication
with_next list None = list
with_next list (Some p) = list ++ p ∷ []

-- after a refresh from the newest publication
abbrev pub refreshed : Running → Publication → Running
refreshed r p = running (step r.admin (refresh_ask r p)).0 r.plugin (with_next r.published (refresh_publishes r p))

abbrev pub serial_of : Publication → Serial
serial_of p = record { 0 = p.serial }

-- the serial of what a refresh published
abbrev pub serial_in : Refresh → Option Serial
serial_in Unchanged = None
serial_in (Published serial) = Some serial

-- after a refresh from the newest publication p, which gave the serial of what it published, if it did
pub record IsRefreshed (r : Running) (p : Publication) (given : Option Serial) (later : Running) : Type 0 where
  pub after : later ≡ refreshed r p
  pub serial : given ≡ option_map serial_of (refresh_publishes r p)
