-- What a log keeps of the changes of one service, and what it answers.
use Rattle.std.specs.Prelude.{ℕ, ◌+◌, ◌-◌, nat_lt, nat_le, ◌==◌, min, ◌^◌, ◌&&◌, Bool, List, [], ◌∷◌, ◌++◌, length, drop, Option, Some, None, if◌then◌else◌}
use Rattle.rg_base.specs.declared.numbers.Version.{Version}

-- how many changes are kept at most
abbrev pub most_kept : ℕ
most_kept = 1024

-- the last version
abbrev pub last_version : ℕ
last_version = 2 ^ 64 - 1

-- a version counts the changes, and stands still at the last one
abbrev pub raised : ℕ → ℕ
raised n = min (n + 1) last_version

-- a version, and the last of the changes that led to it, the oldest first
pub record Book (C : Type 0) : Type 0 where
  pub version : ℕ
  pub changes : List C

-- those that are kept: the last 1,024
abbrev pub last_kept : {C : Type 0} → List C → List C
last_kept changes = drop (length changes - most_kept) changes

-- one more change
abbrev pub noted : {C : Type 0} → C → Book C → Book C
noted change b = record { version = raised b.version; changes = last_kept (b.changes ++ change ∷ []) }

-- a change that isn't noted, after which none before it is kept
abbrev pub restarted : {C : Type 0} → Book C → Book C
restarted b = record { version = raised b.version; changes = [] }

-- what is known of the changes after a version: there is none, these are all, or they aren't known
pub data Known (C : Type 0) : Type 0 where
  Nothing : Known C
  These : List C → Known C
  Unknown : Known C

-- how many changes came after the version
abbrev pub behind : {C : Type 0} → Book C → ℕ → ℕ
behind b from = b.version - from

-- the last n changes
abbrev pub latest : {C : Type 0} → ℕ → List C → List C
latest n changes = drop (length changes - n) changes

-- the version is an earlier one, and all changes after it are kept
abbrev pub keeps_after : {C : Type 0} → Book C → ℕ → Bool
keeps_after b from = nat_lt from b.version && nat_le (behind b from) (length b.changes)

-- nothing where it is the present version, the changes after it where all of these are kept
abbrev pub changes_after : {C : Type 0} → Book C → ℕ → Known C
changes_after b from = if from == b.version then Nothing
    else (if keeps_after b from then These (latest (behind b from) b.changes) else Unknown)

-- who has no version lacks everything
abbrev pub changes_since : {C : Type 0} → Book C → Option Version → Known C
changes_since b None = Unknown
changes_since b (Some from) = changes_after b from.0

-- a book, and how many notes are known to succeed
pub record Logged (C : Type 0) : Type 0 where
  pub book : Book C
  pub spare : ℕ
