-- Which ends of a service are those of one run of the world. To be read after Served.
use Rattle.std.specs.Prelude.{◌≡◌, ◌-◌, ◌==◌, ℕ, List, filter, map, option_map, reverse, Some, slice_get}
use Rattle.rg_facts.specs.Flow.{eval}
use Rattle.rg_facts.specs.declared.facts.Facts.{Facts}
use Rattle.rg_cmd.specs.declared.ask.AdminReply.{AdminReply}
use Rattle.rg_cmd.specs.declared.ask.Ask.{Ask}
use Rattle.rg_turn.specs.declared.rule.Entry.{Entry}
use Rattle.rg_admin_laws.specs.Logs.{Administration}
use Rattle.rg_admin_laws.specs.Machine.{Events, administration, after_events}
use Rattle.rg_admin_laws.specs.Views.{view}
use Rattle.rg_admin_laws.specs.World.{Answer, publications}
use Rattle.rg_publish.specs.declared.history.Publication.{Publication}
use Rattle.rg_session.specs.Right.{in_world}
use Rattle.rg_link.specs.Audits.{Decided}
use Rattle.rg_serve.specs.Trails.{Work, decisions_of}

-- what the pass of this number answered by a decision: the flow over the publication of its serial
abbrev pub given_answer : (plugin : List ℕ) → List Publication → ℕ → Decided → Answer (administration plugin)
given_answer plugin list pass d = record {
  pass = pass;
  request = d.request;
  seen = d.serial;
  verdict = option_map (λ (p : Publication). eval p.facts d.request) (slice_get list (d.serial - 1));
}

-- the answers of one pass in the world, the last of which is the first
abbrev pub answers_by : (plugin : List ℕ) → ℕ → List (Answer (administration plugin)) → List (Answer (administration plugin))
answers_by plugin pass answers = filter (λ (a : Answer (administration plugin)). a.pass == pass) answers

-- There are calls, downloads, publications and entries of passes, in one order, after which the world of the plugin has this past and these
-- publications, and its passes answered by these decisions
pub record IsRun (start : Administration) (past : List (Entry Ask AdminReply)) (list : List Publication) (passes : List (List Decided)) : Type 0 where
  pub facts : Facts
  pub viewed : view start start.state.plugin ≡ Some facts
  pub events : Events start
  pub past_is : (after_events start facts events).history ≡ past
  pub list_is : publications (administration start.state.plugin) (after_events start facts events) ≡ map (in_world start.state.plugin) list
  pub answers : (pass : ℕ) (decided : List Decided) → slice_get passes pass ≡ Some decided
      → answers_by start.state.plugin pass (after_events start facts events).answers ≡ reverse (map (given_answer start.state.plugin list pass) decided)

-- the decisions of each worker
abbrev pub decided_by : {plugin : List ℕ} → List (Work plugin) → List (List Decided)
decided_by {plugin} works = map (λ (w : Work plugin). decisions_of w.sessions) works
