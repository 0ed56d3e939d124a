-- What is known of the bytes on the way to an answer.
use Rattle.std.specs.Prelude.{◌≡◌, ◌≢◌, ◌<◌, ◌≤◌, ◌⊎◌, ◌++◌, ℕ, List, [], length, take, Bool, true, false, Option}
use Rattle.httparse.specs.declared.spans.HeaderSpan.{HeaderSpan}
use Rattle.httparse.specs.Grammar.{RequestHead, IsRequestHead, print_request}
use Rattle.httparse.specs.Spans.{IsRequestAt, IsRequestWithin}
use Rattle.rg_http.specs.declared.message.Message.{Message}
use Rattle.rg_http.specs.declared.rules.Ruling.TheVariants.{Refused, Body}
use Rattle.rg_http.specs.declared.heads.Judged.{Judged}
use Rattle.rg_http.specs.declared.heads.Judged.TheVariants.{Open, Hopeless, Refused as RefusedHead, Head}
use Rattle.rg_http.specs.declared.framer.Place.{Place}
use Rattle.rg_http.specs.declared.framer.Place.TheVariants.{Ended, Cut, Bad, Begun}
use Rattle.rg_http.specs.Rules.{body_limit}
use Rattle.rg_http.specs.Framing.{head_limit, ruling_of, message_of, IsOpen, IsHopeless, HasHead, HasBad, IsUnfinished}
use Rattle.rg_http.specs.declared.message.FrameFault.{FrameFault}
use Rattle.rg_http.specs.declared.message.FrameFault.TheVariants.{Failed, NoMemory}
use Rattle.rg_http.specs.Answers.{piece_limit, IsRead, IsSparing}

-- no fewer than the fields that the window of a head can hold: each takes three bytes at least
abbrev pub field_room : ℕ
field_room = 5461

-- what was found out about the bytes in which a head is looked for
abbrev pub Judges : List ℕ → List HeaderSpan → Judged → Type 0
Judges window headers Open = IsOpen window
Judges window headers Hopeless = IsHopeless window
Judges window headers (RefusedHead status) = (h : RequestHead) × (rest : List ℕ) × HasHead window h rest × (ruling_of h ≡ Refused status)
Judges window headers (Head spans n) =
    IsRequestWithin window headers spans
    × (h : RequestHead) × IsRequestAt window headers spans h × (ruling_of h ≡ Body n) × (n ≤ body_limit)

-- the bytes begin with a whole head of this length, the head of the message m but for its body, which has n bytes
pub record Begins (kept : List ℕ) (m : Message) (len n : ℕ) : Type 0 where
  pub head : RequestHead
  pub is_head : IsRequestHead head
  pub front : take len kept ≡ print_request head
  pub kept_whole : len ≤ length kept
  pub within : len ≤ head_limit
  pub body : ruling_of head ≡ Body n
  pub small : n ≤ body_limit
  pub message : m ≡ message_of head []

-- what stands at the front of the kept bytes
abbrev pub Stands : List ℕ → Place → Type 0
Stands kept Ended = kept ≡ []
Stands kept Cut = (kept ≢ []) × IsUnfinished kept
Stands kept (Bad status) = HasBad kept status
Stands kept (Begun m len n) = Begins kept m len n

-- the place is told only where the link has ended
abbrev pub says_end : Place → Bool
says_end Ended = true
says_end Cut = true
says_end (Bad status) = false
says_end (Begun m len n) = false

-- a piece was read behind the old bytes, or nothing
abbrev pub Took : Option (List ℕ) → Option (List ℕ) → List ℕ → List ℕ → Type 0
Took before after old new = (piece : List ℕ) × IsRead before piece after × (new ≡ old ++ piece) × (length piece ≤ piece_limit)

-- more was read behind the old bytes: nothing, or a last piece behind fewer bytes than are needed
abbrev pub FillsTo : ℕ → List ℕ → List ℕ → Type 0
FillsTo need old read =
    (read ≡ []) ⊎ ((early : List ℕ) × (piece : List ℕ) × (read ≡ early ++ piece) × (length piece ≤ piece_limit) × (length (old ++ early) < need))

abbrev pub Fills : ℕ → Option (List ℕ) → Option (List ℕ) → List ℕ → List ℕ → Type 0
Fills need before after old new = (read : List ℕ) × IsRead before read after × (new ≡ old ++ read) × FillsTo need old read

-- more was read behind the old bytes, sparingly
abbrev pub Grows : Option (List ℕ) → Option (List ℕ) → List ℕ → List ℕ → Type 0
Grows before after old new = (read : List ℕ) × IsRead before read after × (new ≡ old ++ read) × IsSparing old read

-- where the link fails no answer stands in the kept bytes
abbrev pub Breaks : List ℕ → FrameFault → Type 0
Breaks kept Failed = IsUnfinished kept
Breaks kept NoMemory = Unit {0}
