-- Why a line is bad where it stands.
use Rattle.std.specs.Prelude.{ℕ, Bool, true, false, List, [], ◌∷◌, Option, Some, None, option_map, Result, Ok, Err}
use Rattle.rg_base.specs.Listed.{listed}
use Rattle.rg_base.specs.declared.numbers.Moment.{Moment}
use Rattle.rg_admin.specs.Starting.{start_fault}
use Rattle.rg_script.specs.declared.cause.Cause.{Cause}
use Rattle.rg_script.specs.declared.cause.Cause.TheVariants.{NoWord, Json, OutOfPlace, Unsound, Refused}
use Rattle.rg_script.specs.declared.cause.Place.{Place}
use Rattle.rg_script.specs.declared.cause.Place.TheVariants as place
use Rattle.rg_script.specs.declared.line.Line.{Line}
use Rattle.rg_script.specs.declared.line.Line.TheVariants as line
use Rattle.rg_script.specs.Line.{line_read}
use Rattle.rg_facts_check.specs.Causes.{unsound_causes}
use Rattle.rg_facts_check.specs.declared.unsound.Unsound.{Unsound as UnsoundCause}

-- that facts are unsound by these causes, if there are any
abbrev pub unsound_by : List UnsoundCause → Option Cause
unsound_by [] = None
unsound_by (cause ∷ causes) = Some (Unsound (listed (cause ∷ causes)))

-- a script begins with facts, which are sound, or with a configuration that breaks no rule; requests come after either, commands and
-- refreshes after a configuration
abbrev pub place_cause : Place → Line → Option Cause
place_cause place line.Blank = None
place_cause place.Start (line.Facts facts) = unsound_by (unsound_causes facts)
place_cause place.Start (line.Config config) = option_map Refused (start_fault config)
place_cause place.Start _ = Some OutOfPlace
place_cause place.Facts (line.Decide q) = None
place_cause place.Facts _ = Some OutOfPlace
place_cause place.Config (line.Facts facts) = Some OutOfPlace
place_cause place.Config (line.Config config) = Some OutOfPlace
place_cause place.Config _ = None

abbrev pub cause_from : Place → Result Line Cause → Option Cause
cause_from place (Ok line) = place_cause place line
cause_from place (Err cause) = Some cause

-- why the line is bad where it stands, None where it isn't
abbrev pub cause_of : Place → List ℕ → Moment → Option Cause
cause_of place bytes now = cause_from place (line_read bytes now)

-- the line isn't read at all
abbrev pub is_unread : Option Cause → Bool
is_unread (Some NoWord) = true
is_unread (Some (Json path kind)) = true
is_unread _ = false
