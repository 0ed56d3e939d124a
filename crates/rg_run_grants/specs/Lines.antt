-- What a line of a script of grants asks.
use Rattle.std.specs.Prelude.{◌≡◌, ℕ, List, codes, Option, Some, None, option_map, option_and_then, Result, Ok, Err, if◌then◌else◌}
use Rattle.std.specs.Result.{result_ok}
use Rattle.std.specs.Str.{bytes_eq}
use Rattle.rg_base.specs.declared.numbers.Moment.{Moment}
use Rattle.rg_json.specs.Reading.{reading}
use Rattle.rg_script.specs.declared.line.Line.{Line}
use Rattle.rg_script.specs.declared.line.Line.TheVariants as plain
use Rattle.rg_script.specs.declared.line.LineFault.{LineFault}
use Rattle.rg_script.specs.declared.line.LineFault.TheVariants.{Bad, NoMemory}
use Rattle.rg_script.specs.Line.{actor_of, line_of}
use Rattle.rg_script.specs.Words.{behind_space, front_word}
use Rattle.rg_grant.specs.Rows.{grant_shape, row_of}
use Rattle.rg_grant.specs.declared.ask.GrantAsk.{GrantAsk}
use Rattle.rg_grant.specs.declared.ask.GrantAsk.TheVariants as ask
use Rattle.rg_grant.specs.declared.row.GrantRow.{GrantRow}
use Rattle.rg_run_grants.specs.declared.line.Change.{Change}
use Rattle.rg_run_grants.specs.declared.line.Change.TheVariants.{Grant, Revoke}
use Rattle.rg_run_grants.specs.declared.line.GrantLine.{GrantLine}
use Rattle.rg_run_grants.specs.declared.line.GrantLine.TheVariants as line

-- what the word asks of a row
unfoldable pub change_of : List ℕ → Option Change
change_of word = if bytes_eq word (codes "grant") then Some Grant else (if bytes_eq word (codes "revoke") then Some Revoke else None)

abbrev pub asked : Change → List ℕ → GrantRow → GrantAsk
asked Grant actor row = ask.Grant actor row
asked Revoke actor row = ask.Revoke actor row

-- what the actor asks of the row in JSON
abbrev pub row_read : Change → Option (List ℕ) → Option (List ℕ) → Option GrantLine
row_read change (Some actor) (Some json) = option_map (λ row. line.Ask (asked change actor row)) (result_ok (reading grant_shape row_of json))
row_read change _ _ = None

-- behind the word come the actor, one space and the row
abbrev pub change_line : Change → Option (List ℕ) → Option GrantLine
change_line change (Some rest) = row_read change (actor_of (front_word rest)) (behind_space rest)
change_line change None = None

-- a line of another script, but for facts and refreshes
abbrev pub plain_line : Line → Option GrantLine
plain_line plain.Blank = Some line.Blank
plain_line (plain.Config config) = Some (line.Config config)
plain_line (plain.Admin asks) = Some (line.Ask (ask.Plain asks))
plain_line (plain.Decide q) = Some (line.Decide q)
plain_line _ = None

abbrev pub worded : Option Change → List ℕ → Moment → Option GrantLine
worded (Some change) bytes now = change_line change (behind_space bytes)
worded None bytes now = option_and_then plain_line (line_of bytes now)

-- what a line asks; None for one that isn't read
abbrev pub grant_line_of : List ℕ → Moment → Option GrantLine
grant_line_of bytes now = worded (change_of (front_word bytes)) bytes now

-- the answer is the reading, unless memory was refused
abbrev pub Reads : Result GrantLine LineFault → Option GrantLine → Type 0
Reads (Ok read) wanted = wanted ≡ Some read
Reads (Err Bad) wanted = wanted ≡ None
Reads (Err NoMemory) wanted = Unit {0}
