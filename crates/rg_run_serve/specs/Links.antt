-- For proofs alone: what the links of `serve` leave.
use Rattle.std.specs.Prelude.{◌≡◌, ◌⊎◌, ◌<◌, ◌≤◌, ◌+◌, ℕ, List, length, true}
use mathlib.Core.List.{IsPrefix}
use Rattle.rg_cmd.specs.declared.ask.AdminReply.{AdminReply}
use Rattle.rg_cmd.specs.declared.ask.Ask.{Ask}
use Rattle.rg_turn.specs.History.{IsLegal}
use Rattle.rg_turn.specs.declared.rule.Entry.{Entry}
use Rattle.rg_admin_laws.specs.Steps.{step}
use Rattle.rg_publish.specs.declared.history.Publication.{Publication}
use Rattle.rg_serve.specs.Right.{AreDownloadedFor, AreRightFor}
use Rattle.rg_serve.specs.Opened.{Opened}
use Rattle.rg_serve.specs.Served.{HasServed, IsCurrent}
use Rattle.rg_run_script.specs.declared.status.Status.{Status}
use Rattle.rg_run_script.specs.declared.status.Status.TheVariants.{NetFault, NoMemory}
use Rattle.rg_run_serve.specs.Serve.{Door, Numbers, totals_line}

-- these are the numbers after so many links at most were served by the service
pub record AreServed (most : ℕ) (o : Opened) (d e : Door) (t : Numbers) : Type 0 where
  pub given : e.given ≡ d.given + t.links
  pub all : (t.links ≤ most) × ((t.links ≡ most) ⊎ (e.ended ≡ true))
  pub past : List (Entry Ask AdminReply)
  pub counts : t.entries ≡ length past
  pub legal : IsLegal step o.start past
  pub begins : IsPrefix o.history past
  pub list : List Publication
  pub number : t.publications ≡ length list
  pub published : IsPrefix o.published list
  pub right : AreRightFor o.start past list
  pub made : AreDownloadedFor o.start past list
  pub current : IsCurrent o.start past list
  pub served : HasServed o t.links past list t.decisions
  pub entries : length o.history + 1 ≤ t.entries
  pub few : t.publications ≤ t.entries + 1
  pub faults : e.faults ≡ d.faults

abbrev pub TellsTotals : ℕ → Opened → Door → Door → List ℕ → Type 0
TellsTotals most o d e text = (t : Numbers) × (text ≡ totals_line t) × AreServed most o d e t

-- why links are served no longer, and the listener's faults
abbrev pub IsStopped : ℕ → ℕ → Status → Type 0
IsStopped before after NetFault = before < after
IsStopped before after NoMemory = after ≡ before
IsStopped before after _ = ⊥
