-- Which publications are right for a history of the administration. To be read first; then Refreshing and Closing.
use Rattle.std.specs.Prelude.{◌≡◌, ℕ, suc, false, List, map, Some, slice_get}
use Rattle.rg_turn.specs.View.{entry}
use Rattle.rg_turn.specs.declared.rule.Entry.{Entry}
use Rattle.rg_cmd.specs.declared.ask.AdminReply.{AdminReply}
use Rattle.rg_cmd.specs.declared.ask.AdminReply.TheVariants.{Downloaded}
use Rattle.rg_cmd.specs.declared.ask.Ask.{Ask}
use Rattle.rg_cmd.specs.declared.download.Download.{Download}
use Rattle.rg_admin_laws.specs.Leading.{led}
use Rattle.rg_admin_laws.specs.Logs.{Administration}
use Rattle.rg_admin_laws.specs.Machine.{administration, download_ask, is_unchanged, versions}
use Rattle.rg_admin_laws.specs.World.{AreRight, Publication as Shown}
use Rattle.rg_publish.specs.declared.history.Publication.{Publication}

-- a publication of a publisher as one of the world of this plugin
abbrev pub in_world : (plugin : List ℕ) → Publication → Shown (administration plugin)
in_world plugin p = record { serial = p.serial; seq = p.seq; facts = p.facts }

-- numbered 1, 2, 3 and so on; the first seq is 0, each later one is greater than the one before and less than the number of
-- entries; and each publication has the plugin's view in the state after seq entries
unfoldable pub AreRightFor : Administration → List (Entry Ask AdminReply) → List Publication → Type 0
AreRightFor start history list = AreRight (administration start.state.plugin) start history (map (in_world start.state.plugin) list)

-- the entry at the seq of q is the plugin's download from the versions of p. Something changed in its document, which leads from the facts
-- of p to those of q
pub record IsDownloaded (plugin : List ℕ) (history : List (Entry Ask AdminReply)) (p q : Publication) : Type 0 where
  pub document : Download
  pub stands : slice_get history q.seq ≡ Some (entry (download_ask plugin (versions p.facts)) (Downloaded document))
  pub changed : is_unchanged document ≡ false
  pub seq : document.seq ≡ q.seq
  pub leads : led p.facts document ≡ q.facts

-- each publication but the first was made of a download from the one before
unfoldable pub AreDownloadedFor : Administration → List (Entry Ask AdminReply) → List Publication → Type 0
AreDownloadedFor start history list =
    (i : ℕ) (p q : Publication) → slice_get list i ≡ Some p → slice_get list (suc i) ≡ Some q → IsDownloaded start.state.plugin history p q
