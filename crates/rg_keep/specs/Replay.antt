-- The administration that a list of kept commands makes. To be read first; then Keeping and Crashes.
use Rattle.std.specs.Prelude.{ℕ, ◌+◌, ◌==◌, ◌||◌, ◌&&◌, not, Bool, false, List, [], ◌∷◌, Option, Some, None, Result, Ok, Err, if◌then◌else◌}
use Rattle.rg_cmd.specs.declared.ask.AdminReply.{AdminReply}
use Rattle.rg_cmd.specs.declared.ask.Ask.{Ask}
use Rattle.rg_cmd.specs.declared.config.Config.{Config}
use Rattle.rg_json.specs.declared.fault.Fault.{Fault}
use Rattle.rg_admin_laws.specs.Laws.{is_refused}
use Rattle.rg_admin_laws.specs.Logs.{Administration}
use Rattle.rg_admin_laws.specs.Steps.{step}
use Rattle.rg_admin.specs.Starting.{started}
use Rattle.rg_ask_wire.specs.Keeping.{is_keeping}
use Rattle.rg_ask_wire.specs.Reading.{ask_reading}

-- the step of the administration; opaque to proofs but where it is opened, since a step of an unknown command is a large term
unfoldable pub stepped : Administration → Ask → Administration × AdminReply
stepped a ask = step a ask

-- the ask is of a command that is kept, and is accepted
unfoldable pub is_kept : Administration → Ask → Bool
is_kept a ask = is_keeping ask.command && not (is_refused (stepped a ask).1)

-- ---- replays

abbrev pub after_reading : Administration → Result Ask Fault → Administration
after_reading a (Ok ask) = (stepped a ask).0
after_reading a (Err fault) = a

-- after the ask of an entry
unfoldable pub after_entry : Administration → List ℕ → Administration
after_entry a entry = after_reading a (ask_reading entry)

abbrev pub after_entries : Administration → List (List ℕ) → Administration
after_entries a [] = a
after_entries a (entry ∷ entries) = after_entries (after_entry a entry) entries

-- the start of the configuration, and then the step of each entry's ask
unfoldable pub replayed : Config → List (List ℕ) → Administration
replayed config entries = after_entries (started config) entries

-- ---- bad records

abbrev pub is_good_reading : Administration → Result Ask Fault → Bool
is_good_reading a (Ok ask) = is_kept a ask
is_good_reading a (Err fault) = false

-- the entry doesn't read, isn't of a command that is kept, or is refused in this state
unfoldable pub is_bad : Administration → List ℕ → Bool
is_bad a entry = not (is_good_reading a (ask_reading entry))

-- the most commands that are kept
abbrev pub most_kept : ℕ
most_kept = 1000000

-- the least place of a bad entry, or else the first place past those that may be kept, of entries that begin at a place
abbrev pub first_bad_from : Administration → ℕ → List (List ℕ) → Option ℕ
first_bad_from a place [] = None
first_bad_from a place (entry ∷ entries) = if place == most_kept || is_bad a entry then Some place else first_bad_from (after_entry a entry) (place + 1) entries

unfoldable pub first_bad : Config → List (List ℕ) → Option ℕ
first_bad config entries = first_bad_from (started config) 0 entries
