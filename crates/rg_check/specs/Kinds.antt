-- What a line is, which scripts have such lines, and where the lines after it stand.
use Rattle.std.specs.Prelude.{ℕ, List, codes, Bool, true, false, Option, Some}
use Rattle.rg_script.specs.declared.cause.Place.{Place}
use Rattle.rg_script.specs.declared.cause.Place.TheVariants as place
use Rattle.rg_script.specs.declared.line.Line.{Line}
use Rattle.rg_script.specs.declared.line.Line.TheVariants as line
use Rattle.rg_check.specs.declared.command.Command.{Command}
use Rattle.rg_check.specs.declared.command.Command.TheVariants as command
use Rattle.rg_check.specs.declared.kind.LineKind.{LineKind}
use Rattle.rg_check.specs.declared.kind.LineKind.TheVariants as kind

abbrev pub kind_of : Line → LineKind
kind_of line.Blank = kind.Blank
kind_of (line.Facts facts) = kind.Facts
kind_of (line.Config config) = kind.Config
kind_of (line.Admin ask) = kind.Admin
kind_of line.Refresh = kind.Refresh
kind_of (line.Decide q) = kind.Decide

-- the word that such a line begins with
unfoldable pub kind_word : LineKind → List ℕ
kind_word kind.Blank = codes "#"
kind_word kind.Facts = codes "facts"
kind_word kind.Config = codes "config"
kind_word kind.Admin = codes "admin"
kind_word kind.Refresh = codes "refresh"
kind_word kind.Decide = codes "decide"
kind_word kind.Grant = codes "grant"
kind_word kind.Revoke = codes "revoke"
kind_word kind.Report = codes "report"
kind_word kind.Reopen = codes "reopen"

-- whether a script of the command has such lines; those of another command's own are never read in it
abbrev pub takes : Command → LineKind → Bool
takes command.Replay kind = true
takes command.Grants kind.Facts = false
takes command.Grants kind.Refresh = false
takes command.Grants _ = true
takes command.Report kind.Config = false
takes command.Report kind.Admin = false
takes command.Report kind.Refresh = false
takes command.Report kind.Decide = false
takes command.Report _ = true
takes command.Keep kind.Facts = false
takes command.Keep kind.Refresh = false
takes command.Keep _ = true
takes command.Serve kind.Facts = false
takes command.Serve kind.Refresh = false
takes command.Serve kind.Decide = false
takes command.Serve _ = true

-- where the lines stand that follow a line which isn't bad: a script begins with facts or a configuration, and stays behind it
abbrev pub place_after : Place → Option LineKind → Place
place_after place.Start (Some kind.Facts) = place.Facts
place_after place.Start (Some kind.Config) = place.Config
place_after place _ = place
