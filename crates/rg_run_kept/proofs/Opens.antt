-- How a service that keeps opens.
use Rattle.std.proofs.Common.{◌≡◌, ◌∙◌, ℕ, List, [], ◌∷◌, Option, Some, None, ap, sym, option_map}
use Rattle.std.proofs.lemmas.Option.{same_Some}
use Rattle.rg_cmd.specs.declared.ask.AdminReply.{AdminReply}
use Rattle.rg_cmd.specs.declared.ask.Ask.{Ask}
use Rattle.rg_cmd.specs.declared.config.Config.{Config}
use Rattle.rg_turn.specs.declared.rule.Entry.{Entry}
use Rattle.rg_facts.specs.declared.facts.Facts.{Facts}
use Rattle.rg_admin_laws.specs.Logs.{Administration}
use Rattle.rg_admin_laws.specs.Views.{view}
use Rattle.rg_admin.specs.Starting.{started}
use Rattle.rg_publish.specs.Publications.{publication}
use Rattle.rg_publish.specs.declared.history.Publication.{Publication}
use Rattle.rg_serve.specs.Opened.{Opened, called, opened}
use Rattle.rg_run_kept.specs.Opening.{Begins}

-- what opens has the administration as its start, whatever the plugin sees
start_of_view : (a : Administration) (workers : ℕ) (seen : Option Facts) (o : Opened)
    → option_map (λ (facts : Facts). record { start = a; history = []; calls = 0; published = publication 1 0 facts ∷ []; workers = workers }) seen ≡ Some o
    → o.start ≡ a
start_of_view a workers None o is = cc
start_of_view a workers (Some facts) o is = sym (ap (λ (o : Opened). o.start) (same_Some _ o is))

start_of : (a : Administration) (workers : ℕ) (o : Opened) → opened workers a ≡ Some o → o.start ≡ a
start_of a workers o is = start_of_view a workers (view a a.state.plugin) o is

-- the start and the number of workers stay while records are asked again, and while it is refreshed
pub begins_so : (config : Config) (workers : ℕ) (a : Administration) (first halted asked refreshed : Opened) (history : List (Entry Ask AdminReply)) (published : List Publication)
    → a ≡ started config → opened workers a ≡ Some first → first.workers ≡ workers → halted ≡ first → asked.start ≡ halted.start → asked.workers ≡ halted.workers
    → refreshed ≡ called asked history published → Begins config workers refreshed
begins_so config workers a first halted asked refreshed history published begins opens many same start workers_stay later = record {
  start = ap (λ (o : Opened). o.start) later ∙ (start ∙ (ap (λ (o : Opened). o.start) same ∙ (start_of a workers first opens ∙ begins)));
  workers_are = ap (λ (o : Opened). o.workers) later ∙ (workers_stay ∙ (ap (λ (o : Opened). o.workers) same ∙ many));
}
