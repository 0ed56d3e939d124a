-- The command `replay`: a script of facts, or of an administration and its plugin.
use Rattle.std.specs.Prelude.{◌≡◌, ℕ, ◌++◌, true, List, [], codes, decimal, Option, Some, None, option_map, if◌then◌else◌}
use Rattle.rg_base.specs.declared.numbers.Moment.{Moment}
use Rattle.rg_base.specs.declared.numbers.Serial.{Serial}
use Rattle.rg_policy.specs.declared.request.AccessRequest.{AccessRequest}
use Rattle.rg_facts.specs.declared.decision.Decision.{Decision}
use Rattle.rg_facts.specs.declared.facts.Facts.{Facts}
use Rattle.rg_facts.specs.Sound.{sound}
use Rattle.rg_cmd.specs.declared.ask.Ask.{Ask}
use Rattle.rg_cmd.specs.declared.config.Config.{Config}
use Rattle.rg_admin_laws.specs.Steps.{step}
use Rattle.rg_session.specs.Starting.{start_fault}
use Rattle.rg_publish.specs.Passes.{decision_of}
use Rattle.rg_publish.specs.Publications.{publication}
use Rattle.rg_publish.specs.declared.history.Publication.{Publication}
use Rattle.rg_run_replay.specs.Running.{Running, asked, newest, opened_unless, refresh_publishes, refreshed, serial_of}
use Rattle.rg_script.specs.declared.line.Line.{Line}
use Rattle.rg_script.specs.declared.line.Line.TheVariants as line
use Rattle.rg_script.specs.Line.{line_of}
use Rattle.rg_run_replay.specs.declared.replay.Stage.{Stage}
use Rattle.rg_run_replay.specs.declared.replay.Stage.TheVariants as state
use Rattle.rg_hook.specs.Enriching.{EnricherState}
use Rattle.rg_run_script.specs.Follow.{Output, Work, worked}
use Rattle.rg_run_script.specs.Hooked.{Hooked, carrying, hooked, judged, with_enrichers}
use Rattle.rg_run_script.specs.Printed.{deciding, quiet, reply_line}

-- how far a script has come: only blank lines, facts that are published, or an administration that is running
abbrev pub State : Type 0
State = Stage Running

-- what is printed of a refresh that published this, None where nothing changed
unfoldable pub refresh_line : Option Serial → List ℕ
refresh_line None = codes "{\"unchanged\":true}\n"
refresh_line (Some serial) = codes "{\"published\":" ++ (decimal serial.0 ++ codes "}\n")

-- ---- the work of a line in a state; None for a bad line

-- this is printed, and nothing is decided
abbrev pub prints : List ℕ → Running → Work State
prints text r = record { text = text; state = state.Config r; decided = [] }

-- a script may begin with facts, which are sound
unfoldable pub published_facts : Facts → Option Facts
published_facts facts = if sound facts then Some facts else None

-- those that are published are sound
abbrev pub AreSound : Option Facts → Type 0
AreSound None = Unit {0}
AreSound (Some facts) = sound facts ≡ true

unfoldable pub facts_work : State → Facts → Option (Work State)
facts_work state.Empty facts = option_map (λ f. quiet (state.Facts f)) (published_facts facts)
facts_work _ facts = None

-- or with a configuration, which breaks no rule
unfoldable pub config_work : State → Config → Option (Work State)
config_work state.Empty config = option_map (λ r. quiet (state.Config r)) (opened_unless (start_fault config) config)
config_work _ config = None

-- after a configuration the administration is asked, and its reply is printed
unfoldable pub admin_work : State → Ask → Option (Work State)
admin_work (state.Config r) ask = Some (prints (reply_line (step r.admin ask).1) (asked r ask))
admin_work _ ask = None

-- and the plugin is refreshed from its newest publication
abbrev pub refreshed_from : Running → Publication → Work State
refreshed_from r p = prints (refresh_line (option_map serial_of (refresh_publishes r p))) (refreshed r p)

unfoldable pub refresh_work : State → Option (Work State)
refresh_work (state.Config r) = option_map (refreshed_from r) (newest r)
refresh_work _ = None

-- what is published last; facts are the one publication of their script
abbrev pub newest_of : State → Option Publication
newest_of state.Empty = None
newest_of (state.Facts facts) = Some (publication 1 0 facts)
newest_of (state.Config r) = newest r

-- requests come after either, and are decided by what is published last
abbrev pub decision_by_newest : State → AccessRequest → Option Decision
decision_by_newest s q = option_map (λ p. decision_of p q) (newest_of s)

-- the service that they go to
abbrev pub service_of : State → List ℕ
service_of state.Empty = []
service_of (state.Facts facts) = facts.service
service_of (state.Config r) = r.plugin

-- without enrichers
unfoldable pub decide_work : State → AccessRequest → Option (Work State)
decide_work s q = option_map (deciding s (service_of s) q) (decision_by_newest s q)

-- and with them
unfoldable pub judge_work : State → List EnricherState → AccessRequest → Option (Work (Hooked State))
judge_work s es q = judged s (service_of s) es (decision_by_newest s) q

-- a line up to what it decides: a request waits
abbrev pub prepare_work : State → Line → Option (Work State)
prepare_work s line.Blank = Some (quiet s)
prepare_work s (line.Facts facts) = facts_work s facts
prepare_work s (line.Config config) = config_work s config
prepare_work s (line.Admin ask) = admin_work s ask
prepare_work s line.Refresh = refresh_work s
prepare_work s (line.Decide q) = Some (quiet s)

-- the request that a line asks about
abbrev pub request_in : Line → Option AccessRequest
request_in (line.Decide q) = Some q
request_in read = None

abbrev pub line_work : State → Option Line → Option (Work State)
line_work s None = None
line_work s (Some (line.Decide q)) = decide_work s q
line_work s (Some read) = prepare_work s read

-- ---- the script

-- a line in a state at its moment, without enrichers
abbrev pub replay_step : State → List ℕ → Moment → Option (Work State)
replay_step s bytes now = line_work s (line_of bytes now)

-- what the lines come to without enrichers, each read and worked at its moment
abbrev pub replayed : List (List ℕ) → List Moment → Option (Output State)
replayed = worked replay_step state.Empty 1

-- with enrichers, which leave all lines alone but those that decide
abbrev pub line_work_with : State → List EnricherState → Option Line → Option (Work (Hooked State))
line_work_with s es (Some (line.Decide q)) = judge_work s es q
line_work_with s es read = option_map (carrying es) (line_work s read)

abbrev pub replay_step_with : State → List EnricherState → List ℕ → Moment → Option (Work (Hooked State))
replay_step_with s es bytes now = line_work_with s es (line_of bytes now)

-- what the lines come to with these enrichers
abbrev pub replayed_with : List EnricherState → List (List ℕ) → List Moment → Option (Output (Hooked State))
replayed_with es = worked (with_enrichers replay_step_with) (hooked state.Empty es) 1
