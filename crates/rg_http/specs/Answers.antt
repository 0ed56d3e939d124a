-- What the answers of a framer say of the bytes: those that it has read and that belong to no message yet, and those that its link is
-- still to give where the link tells them.
use Rattle.std.specs.Prelude.{◌≡◌, ◌≢◌, ◌≤◌, ◌<◌, ◌+◌, ◌⊎◌, ℕ, List, [], ◌++◌, length, Bool, true, false, Option, Some, None}
use Rattle.rg_http.specs.declared.message.Next.{Next}
use Rattle.rg_http.specs.declared.message.Next.TheVariants.{Message as Whole, Ended, Cut, Bad}
use Rattle.rg_http.specs.declared.message.FrameFault.{FrameFault}
use Rattle.rg_http.specs.declared.message.FrameFault.TheVariants.{Failed, NoMemory}
use Rattle.rg_http.specs.Rules.{body_limit}
use Rattle.rg_http.specs.Framing.{head_limit, HasMessage, HasBad, IsUnfinished}

-- what contracts see of a framer: the bytes that were read and belong to no message yet, and whether it still answers
pub record Framed : Type 0 where
  pub bytes : List ℕ
  pub live : Bool

-- the most bytes that one read brings
abbrev pub piece_limit : ℕ
piece_limit = 4096

-- these bytes were read: with those that are left they make up what there was. A link that tells none goes on telling none
abbrev pub IsRead : Option (List ℕ) → List ℕ → Option (List ℕ) → Type 0
IsRead None read after = after ≡ None
IsRead (Some before) read after = (rest : List ℕ) × (before ≡ read ++ rest) × (after ≡ Some rest)

-- these bytes were written behind those that were held
abbrev pub Wrote : Option (List ℕ) → Option (List ℕ) → List ℕ → Type 0
Wrote before after bytes = (out : List ℕ) → before ≡ Some out → after ≡ Some (out ++ bytes)

-- behind the bytes that were kept no more was read than the answer takes: nothing, or one last piece behind bytes in which no answer
-- stood yet
abbrev pub IsSparing : List ℕ → List ℕ → Type 0
IsSparing kept read =
    (read ≡ [])
    ⊎ ((early : List ℕ) × (piece : List ℕ) × (read ≡ early ++ piece) × (length piece ≤ piece_limit) × IsUnfinished (kept ++ early))

-- the answer by the bytes read so far, and what is kept of them: after a message those behind it, and else all
abbrev pub Answers : List ℕ → Next → List ℕ → Type 0
Answers bytes (Whole m) kept = HasMessage bytes m kept
Answers bytes Ended kept = (bytes ≡ []) × (kept ≡ [])
Answers bytes Cut kept = (bytes ≢ []) × IsUnfinished bytes × (kept ≡ bytes)
Answers bytes (Bad status) kept = HasBad bytes status × (kept ≡ bytes)

-- what a fault leaves of the bytes read so far: all of them. Where the link failed no answer stands in them
abbrev pub Leaves : List ℕ → FrameFault → List ℕ → Type 0
Leaves bytes Failed kept = IsUnfinished bytes × (kept ≡ bytes)
Leaves bytes NoMemory kept = kept ≡ bytes

-- the link's count of faults rises where the fault is the link's, and else stands still
abbrev pub Counts : FrameFault → ℕ → ℕ → Type 0
Counts Failed before after = before < after
Counts NoMemory before after = after ≡ before

-- the most bytes that are ever kept: a head, its body and what the last piece brought besides
abbrev pub kept_limit : ℕ
kept_limit = head_limit + body_limit + piece_limit

-- the answer is a message
abbrev pub is_message : Next → Bool
is_message (Whole m) = true
is_message Ended = false
is_message Cut = false
is_message (Bad status) = false

-- the answer comes only where the link has ended
abbrev pub is_end : Next → Bool
is_end (Whole m) = false
is_end Ended = true
is_end Cut = true
is_end (Bad status) = false

-- a bad place is answered with one of these statuses
abbrev pub IsRefusal : ℕ → Type 0
IsRefusal status = (status ≡ 400) ⊎ ((status ≡ 411) ⊎ ((status ≡ 413) ⊎ ((status ≡ 431) ⊎ (status ≡ 501))))

abbrev pub HasKnownStatus : Next → Type 0
HasKnownStatus (Whole m) = Unit {0}
HasKnownStatus Ended = Unit {0}
HasKnownStatus Cut = Unit {0}
HasKnownStatus (Bad status) = IsRefusal status
