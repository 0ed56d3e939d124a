-- What the words of a command line ask for.
use Rattle.std.specs.Prelude.{ℕ, ◌==◌, ◌&&◌, ◌^◌, not, nat_le, nat_lt, Bool, true, false, List, [], ◌∷◌, length, codes, Option, Some, None, option_map, option_and_then, if◌then◌else◌}
use Rattle.std.specs.List.{list_all}
use Rattle.std.specs.Char.{is_ascii_digit}
use Rattle.std.specs.Str.{bytes_eq, chars}
use Rattle.std.specs.Str.Parse.{digits_value}
use Rattle.rg_run.specs.declared.command.Command.{Command}
use Rattle.rg_run.specs.declared.command.Command.TheVariants.{Replay, Serve, Drill, Grants, Report, Keep}

abbrev pub has_dash : List ℕ → Bool
has_dash [] = false
has_dash (b ∷ bs) = b == 45

-- a word that begins with `-`, and the word `help`, ask for no command
unfoldable pub is_plain : List ℕ → Bool
is_plain word = not (has_dash word) && not (bytes_eq word (codes "help"))

-- 1 to 10 decimal digits write a number, which is at most the last `u32`
abbrev pub is_numeral : List ℕ → Bool
is_numeral word = nat_le 1 (length word) && (nat_le (length word) 10 && list_all is_ascii_digit word)

unfoldable pub number_of : List ℕ → Option ℕ
number_of word = if is_numeral word && nat_lt (digits_value 10 word) (2 ^ 32) then Some (digits_value 10 word) else None

-- the number where it is from the lowest that is allowed to the highest
abbrev pub within : ℕ → ℕ → ℕ → Option ℕ
within low high n = if nat_le low n && nat_le n high then Some n else None

unfoldable pub number_in : ℕ → ℕ → List ℕ → Option ℕ
number_in low high word = option_and_then (within low high) (number_of word)

abbrev pub replay_of : List (List ℕ) → Option Command
replay_of [] = Some Replay
replay_of _ = None

abbrev pub report_of : List (List ℕ) → Option Command
report_of [] = Some Report
report_of _ = None

-- `serve ADDRESS LINKS`
abbrev pub serve_of : List (List ℕ) → Option Command
serve_of (address ∷ links ∷ []) = option_map (λ n. Serve (chars address) n) (number_in 1 1000000 links)
serve_of _ = None

abbrev pub drill_by : Option ℕ → Option ℕ → Option ℕ → Option Command
drill_by (Some seed) (Some policies) (Some requests) = Some (Drill seed policies requests)
drill_by _ _ _ = None

-- `drill SEED POLICIES REQUESTS`
abbrev pub drill_of : List (List ℕ) → Option Command
drill_of (seed ∷ policies ∷ requests ∷ []) = drill_by (number_in 0 4294967295 seed) (number_in 0 5000 policies) (number_in 0 100000 requests)
drill_of _ = None

abbrev pub grants_of : List (List ℕ) → Option Command
grants_of [] = Some Grants
grants_of _ = None

abbrev pub keep_of : List (List ℕ) → Option Command
keep_of [] = Some Keep
keep_of _ = None

-- the first word names the command
unfoldable pub named : List ℕ → List (List ℕ) → Option Command
named word parts = if bytes_eq word (codes "replay") then replay_of parts else (
    if bytes_eq word (codes "serve") then serve_of parts else (
    if bytes_eq word (codes "drill") then drill_of parts else (
    if bytes_eq word (codes "grants") then grants_of parts else (
    if bytes_eq word (codes "report") then report_of parts else (
    if bytes_eq word (codes "keep") then keep_of parts else None)))))

abbrev pub command_from : List (List ℕ) → Option Command
command_from [] = None
command_from (word ∷ parts) = named word parts

-- the command that the words ask for
unfoldable pub command_of : List (List ℕ) → Option Command
command_of words = if list_all is_plain words then command_from words else None

-- the commands that read a script
abbrev pub reads : Option Command → Bool
reads (Some Replay) = true
reads (Some Grants) = true
reads (Some (Serve address links)) = true
reads (Some Report) = true
reads (Some Keep) = true
reads _ = false

-- the command that serves links
abbrev pub serves : Option Command → Bool
serves (Some (Serve address links)) = true
serves _ = false

-- the command that takes the keeper
abbrev pub takes_keeper : Option Command → Bool
takes_keeper (Some Keep) = true
takes_keeper _ = false

-- the commands that enrich and audit by the hooks of worker 0, and leave them there
abbrev pub judges : Option Command → Bool
judges (Some Replay) = true
judges (Some Grants) = true
judges (Some Keep) = true
judges _ = false
