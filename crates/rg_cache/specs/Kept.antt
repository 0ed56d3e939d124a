-- What is kept of a publication: its facts as one line. To be read first.
use Rattle.std.specs.Prelude.{ℕ, ◌==◌, List, [], ◌∷◌, ◌++◌, Option, Some, None, Result, Ok, Err, if◌then◌else◌}
use Rattle.rg_facts.specs.declared.facts.Facts.{Facts}
use Rattle.rg_facts.specs.Sound.{sound}
use Rattle.rg_json.specs.declared.fault.Fault.{Fault}
use Rattle.rg_json.specs.Reading.{reading}
use Rattle.rg_wire.specs.Records.{facts_of}
use Rattle.rg_wire.specs.Shapes.{facts_shape}
use Rattle.rg_download_wire.specs.PrintedFacts.{facts_text}
use Rattle.rg_cache.specs.declared.fault.KeptFault.{KeptFault}
use Rattle.rg_cache.specs.declared.fault.KeptFault.TheVariants.{Cut, Unread, Unsound}

-- the line, with its LF
abbrev pub kept_text : Facts → List ℕ
kept_text facts = facts_text facts ++ 10 ∷ []

-- one byte alone: the LF ends a line of no bytes
abbrev pub end_of : ℕ → Option (List ℕ)
end_of b = if b == 10 then Some [] else None

abbrev pub behind : ℕ → Option (List ℕ) → Option (List ℕ)
behind b None = None
behind b (Some line) = Some (b ∷ line)

-- the bytes before the LF at their end; None where there is none
abbrev pub line_of : List ℕ → Option (List ℕ)
line_of [] = None
line_of (b ∷ []) = end_of b
line_of (b ∷ c ∷ bytes) = behind b (line_of (c ∷ bytes))

-- facts that break no rule
abbrev pub sound_facts : Facts → Result Facts KeptFault
sound_facts facts = if sound facts then Ok facts else Err Unsound

abbrev pub read_line : Result Facts Fault → Result Facts KeptFault
read_line (Err fault) = Err Unread
read_line (Ok facts) = sound_facts facts

abbrev pub of_line : Option (List ℕ) → Result Facts KeptFault
of_line None = Err Cut
of_line (Some line) = read_line (reading facts_shape facts_of line)

-- the facts that these bytes keep, or the first thing that is wrong with them
unfoldable pub kept_in : List ℕ → Result Facts KeptFault
kept_in bytes = of_line (line_of bytes)
