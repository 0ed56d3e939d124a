-- The command `serve`: a script of one configuration and commands of the administration, and then links. To be read after Follow and
-- Streams; Runs has it among the other commands.
use Rattle.std.specs.Prelude.{◌≡◌, ◌⊎◌, ◌≤◌, ℕ, ◌+◌, ◌++◌, Bool, true, false, List, [], ◌∷◌, length, codes, decimal, Option, Some, None, option_map}
use mathlib.Core.List.{IsPrefix}
use Rattle.rg_base.specs.declared.numbers.Moment.{Moment}
use Rattle.rg_facts.specs.declared.facts.Facts.{Facts}
use Rattle.rg_cmd.specs.declared.ask.AdminReply.{AdminReply}
use Rattle.rg_cmd.specs.declared.ask.Ask.{Ask}
use Rattle.rg_cmd.specs.declared.config.Config.{Config}
use Rattle.rg_cmd.specs.declared.rule.Rule.{Rule}
use Rattle.rg_turn.specs.History.{IsLegal}
use Rattle.rg_turn.specs.View.{entry}
use Rattle.rg_turn.specs.declared.rule.Entry.{Entry}
use Rattle.rg_admin_laws.specs.Logs.{Administration}
use Rattle.rg_admin_laws.specs.Machine.{Versions, download_ask, same_versions, versions}
use Rattle.rg_admin_laws.specs.Steps.{step}
use Rattle.rg_admin_laws.specs.Views.{view}
use Rattle.rg_admin.specs.Starting.{start_fault, started}
use Rattle.rg_publish.specs.declared.history.Publication.{Publication}
use Rattle.rg_serve.specs.Right.{AreDownloadedFor, AreRightFor}
use Rattle.rg_serve.specs.Opened.{Opened}
use Rattle.rg_serve.specs.Served.{HasServed, IsCurrent}
use Rattle.rg_script.specs.declared.line.Line.{Line}
use Rattle.rg_script.specs.declared.line.Line.TheVariants as line
use Rattle.rg_script.specs.Line.{line_of}
use Rattle.rg_run_script.specs.declared.status.Status.{Status}
use Rattle.rg_run_script.specs.declared.status.Status.TheVariants.{Done, BadLine}
use Rattle.rg_run_script.specs.Follow.{Output, Work, bad_line_text, worked}
use Rattle.rg_run_script.specs.Printed.{reply_line}

-- ---- the script

-- the administration that the configuration starts, and what it is asked, in order
pub record Asked : Type 0 where
  pub start : Administration
  pub asks : List Ask

-- None before the configuration
abbrev pub Asking : Type 0
Asking = Option Asked

-- a line prints nothing by itself
abbrev pub goes_on : Asking → Work Asking
goes_on s = record { text = []; state = s; decided = [] }

abbrev pub begun : Administration → Work Asking
begun a = goes_on (Some (record { start = a; asks = [] }))

abbrev pub begun_unless : Option Rule → Config → Option (Work Asking)
begun_unless None config = Some (begun (started config))
begun_unless (Some rule) config = None

-- a script begins with a configuration, which breaks no rule
unfoldable pub config_taken : Asking → Config → Option (Work Asking)
config_taken None config = begun_unless (start_fault config) config
config_taken (Some a) config = None

-- and commands follow
unfoldable pub ask_taken : Asking → Ask → Option (Work Asking)
ask_taken None ask = None
ask_taken (Some a) ask = Some (goes_on (Some (record a { asks = a.asks ++ ask ∷ [] })))

abbrev pub line_taken : Asking → Option Line → Option (Work Asking)
line_taken s None = None
line_taken s (Some line.Blank) = Some (goes_on s)
line_taken s (Some (line.Facts facts)) = None
line_taken s (Some (line.Config config)) = config_taken s config
line_taken s (Some (line.Admin ask)) = ask_taken s ask
line_taken s (Some line.Refresh) = None
line_taken s (Some (line.Decide q)) = None

abbrev pub serve_step : Asking → List ℕ → Moment → Option (Work Asking)
serve_step s bytes now = line_taken s (line_of bytes now)

-- where lines end without a configuration, the one behind the last is bad
abbrev pub ended_with : ℕ → Output Asking → Status → Asking → Output Asking
ended_with n o Done None = record o { text = o.text ++ bad_line_text n; status = BadLine }
ended_with n o status state = o

abbrev pub unless_begun : ℕ → Output Asking → Output Asking
unless_begun n o = ended_with n o o.status o.state

-- what the lines come to
abbrev pub taken : List (List ℕ) → List Moment → Option (Output Asking)
taken lines moments = option_map (unless_begun (length lines + 1)) (worked serve_step None 1 lines moments)

-- ---- the administration

-- the replies to these asks, a line each
abbrev pub replies : Administration → List Ask → List ℕ
replies a [] = []
replies a (ask ∷ asks) = reply_line (step a ask).1 ++ replies (step a ask).0 asks

abbrev pub after_asks : Administration → List Ask → Administration
after_asks a [] = a
after_asks a (ask ∷ asks) = after_asks (step a ask).0 asks

-- the entries that they make
abbrev pub entries_of : Administration → List Ask → List (Entry Ask AdminReply)
entries_of a [] = []
entries_of a (ask ∷ asks) = entry ask (step a ask).1 ∷ entries_of (step a ask).0 asks

abbrev pub replies_to : Asked → List ℕ
replies_to a = replies a.start a.asks

-- the replies, and then what the script printed: the line that names a bad one
abbrev pub printed_by : Asking → List ℕ → List ℕ
printed_by None text = text
printed_by (Some a) text = replies_to a ++ text

abbrev pub printed_of : Output Asking → List ℕ
printed_of o = printed_by o.state o.text

-- the asks raised a version of what the plugin sees
abbrev pub AreRaised : Administration → List Ask → Type 0
AreRaised a asks = (f : Facts) × (g : Facts) × (view a a.state.plugin ≡ Some f) × (view (after_asks a asks) a.state.plugin ≡ Some g)
    × (same_versions (versions f) (versions g) ≡ false)

-- ---- the links

-- a listener: how many links it gave, whether it has ended, its faults
pub record Door : Type 0 where
  pub given : ℕ
  pub ended : Bool
  pub faults : ℕ

abbrev pub door : ℕ → Bool → ℕ → Door
door given ended faults = record { given = given; ended = ended; faults = faults }

-- what is printed at the end
pub record Numbers : Type 0 where
  pub links : ℕ
  pub entries : ℕ
  pub publications : ℕ
  pub decisions : ℕ

unfoldable pub totals_line : Numbers → List ℕ
totals_line t =
    codes "links=" ++ (decimal t.links ++ (codes " entries=" ++ (decimal t.entries ++ (codes " publications=" ++ (decimal t.publications
    ++ (codes " decisions=" ++ (decimal t.decisions ++ codes "\n")))))))

-- the service before it serves links: its history is the asks with their replies, and then the plugin's download
pub record IsOpened (a : Asked) (o : Opened) : Type 0 where
  pub start : o.start ≡ a.start
  pub from : Versions
  pub reply : AdminReply
  pub history : o.history ≡ entries_of a.start a.asks ++ entry (download_ask a.start.state.plugin from) reply ∷ []
  pub calls : o.calls ≡ length o.history

-- The links are those that the listener gave, and they are as many as were asked for, or the listener has ended. The entries are the asks,
-- the two refreshes, and what the links asked. Each publication but the first came after an entry, and what the asks raised was published.
-- The numbers are those of the service that was opened, when it was closed: of its whole history, which is legal from the start, of its list
-- of publications, which is right for that and was made of its downloads, and of the decisions of its links. Each link had one session of
-- one worker, and none of them was short of memory, as `HasServed` says
pub record AreTotals (most workers : ℕ) (a : Asked) (d e : Door) (t : Numbers) : Type 0 where
  pub given : e.given ≡ d.given + t.links
  pub all : (t.links ≤ most) × ((t.links ≡ most) ⊎ (e.ended ≡ true))
  pub opened : Opened
  pub opens : IsOpened a opened
  pub workers_are : opened.workers ≡ workers
  pub past : List (Entry Ask AdminReply)
  pub counts : t.entries ≡ length past
  pub legal : IsLegal step a.start past
  pub begins : IsPrefix opened.history past
  pub list : List Publication
  pub number : t.publications ≡ length list
  pub published : IsPrefix opened.published list
  pub right : AreRightFor a.start past list
  pub made : AreDownloadedFor a.start past list
  pub current : IsCurrent a.start past list
  pub served : HasServed opened t.links past list t.decisions
  pub entries : length a.asks + 2 ≤ t.entries
  pub few : t.publications ≤ t.entries + 1
  pub some : 1 ≤ t.publications
  pub raised : AreRaised a.start a.asks → 2 ≤ t.publications
