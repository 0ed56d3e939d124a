-- The commands whose scripts are checked, and which of them the words of the command line ask for.
use Rattle.std.specs.Prelude.{ℕ, List, [], ◌∷◌, codes, find, Option, Some, None}
use Rattle.std.specs.Str.{bytes_eq}
use Rattle.rg_check.specs.declared.command.Command.{Command}
use Rattle.rg_check.specs.declared.command.Command.TheVariants.{Replay, Grants, Report, Keep, Serve}

-- its name
unfoldable pub command_word : Command → List ℕ
command_word Replay = codes "replay"
command_word Grants = codes "grants"
command_word Report = codes "report"
command_word Keep = codes "keep"
command_word Serve = codes "serve"

-- the command of this name
unfoldable pub command_named : List ℕ → Option Command
command_named word = find (λ command. bytes_eq (command_word command) word) (Replay ∷ Grants ∷ Report ∷ Keep ∷ Serve ∷ [])

-- one word names the command, and none asks for `replay`
abbrev pub command_of : List (List ℕ) → Option Command
command_of [] = Some Replay
command_of (word ∷ []) = command_named word
command_of words = None
