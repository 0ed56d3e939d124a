-- The command `grants`: a script of an administration with grants, and of what its plugin decides.
use Rattle.std.specs.Prelude.{ℕ, List, [], Option, Some, None, option_map}
use Rattle.rg_base.specs.declared.numbers.Moment.{Moment}
use Rattle.rg_policy.specs.declared.request.AccessRequest.{AccessRequest}
use Rattle.rg_cmd.specs.declared.ask.AdminReply.{AdminReply}
use Rattle.rg_cmd.specs.declared.config.Config.{Config}
use Rattle.rg_grant.specs.Logs.{Administration}
use Rattle.rg_grant.specs.Starting.{start_fault, started_unless}
use Rattle.rg_grant.specs.Steps.{granted}
use Rattle.rg_grant.specs.declared.ask.GrantAsk.{GrantAsk}
use Rattle.rg_run_script.specs.Current.{decision_now}
use Rattle.rg_run_grants.specs.Lines.{grant_line_of}
use Rattle.rg_run_grants.specs.declared.line.GrantLine.{GrantLine}
use Rattle.rg_run_grants.specs.declared.line.GrantLine.TheVariants as line
use Rattle.rg_hook.specs.Enriching.{EnricherState}
use Rattle.rg_run_script.specs.Follow.{Output, Work, worked}
use Rattle.rg_run_script.specs.Hooked.{Hooked, carrying, hooked, judged, with_enrichers}
use Rattle.rg_run_script.specs.Printed.{quiet, reply_line}

-- the administration; None before the configuration
abbrev pub State : Type 0
State = Option Administration

-- ---- the work of a line in a state; None for a bad line

-- a script begins with a configuration, which breaks no rule
unfoldable pub start_work : State → Config → Option (Work State)
start_work None config = option_map (λ a. quiet (Some a)) (started_unless (start_fault config) config)
start_work (Some a) config = None

-- the reply is printed, and nothing is decided
abbrev pub replied : Administration × AdminReply → Work State
replied r = record { text = reply_line r.1; state = Some r.0; decided = [] }

-- after it the administration is asked, also what is granted and revoked
unfoldable pub ask_work : State → GrantAsk → Option (Work State)
ask_work (Some a) ask = Some (replied (granted a ask))
ask_work None ask = None

-- and requests are enriched, and decided over what the plugin sees then
unfoldable pub judge_work : State → List EnricherState → AccessRequest → Option (Work (Hooked State))
judge_work None es q = None
judge_work (Some a) es q = judged (Some a) a.state.plugin es (decision_now a) q

-- the other lines leave the enrichers alone
abbrev pub line_work : State → List EnricherState → Option GrantLine → Option (Work (Hooked State))
line_work s es None = None
line_work s es (Some line.Blank) = Some (carrying es (quiet s))
line_work s es (Some (line.Config config)) = option_map (carrying es) (start_work s config)
line_work s es (Some (line.Ask ask)) = option_map (carrying es) (ask_work s ask)
line_work s es (Some (line.Decide q)) = judge_work s es q

-- ---- the script

-- a line in a state and with these enrichers, at its moment
abbrev pub grants_step : State → List EnricherState → List ℕ → Moment → Option (Work (Hooked State))
grants_step s es bytes now = line_work s es (grant_line_of bytes now)

-- what the lines come to with these enrichers, each read and worked at its moment
abbrev pub grants : List EnricherState → List (List ℕ) → List Moment → Option (Output (Hooked State))
grants es = worked (with_enrichers grants_step) (hooked None es) 1
