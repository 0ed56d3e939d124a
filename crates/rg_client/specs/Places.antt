-- What is known of the bytes on the way to a reply.
use Rattle.std.specs.Prelude.{◌≡◌, ◌≤◌, ◌||◌, ◌⊎◌, ◌==◌, ℕ, List, ◌++◌, length, take, Option, Some, None, Result, MatchResult, ⊤}
use Rattle.httparse.specs.Grammar.{ResponseHead, IsResponseHead, HasNoResponse, NeverHasResponse, print_response, status_code}
use Rattle.rg_http.specs.Answers.{IsRead}
use Rattle.rg_http.specs.Framing.{head_limit, window}
use Rattle.rg_http.specs.Rules.{asks_close}
use Rattle.rg_http.specs.declared.message.FrameFault.{FrameFault}
use Rattle.rg_http.specs.declared.message.FrameFault.TheVariants.{Failed as FrameFailed, NoMemory as FrameNoMemory}
use Rattle.rg_http.specs.declared.message.Response.{Response}
use Rattle.rg_client.specs.declared.fault.ClientFault.{ClientFault}
use Rattle.rg_client.specs.declared.fault.ClientFault.TheVariants.{Failed, Ended, Unreadable, NoMemory}
use Rattle.rg_client.specs.declared.heads.Begun.{Begun}
use Rattle.rg_client.specs.declared.heads.Judged.{Judged}
use Rattle.rg_client.specs.declared.heads.Judged.TheVariants.{Open, Unread, Head}
use Rattle.rg_client.specs.Replies.{HasHead, HasNone, HasReply, IsUnfinished, Leaves, body_limit, fields_of, length_of}

-- a fault of reading or writing as the client's
abbrev pub IsFault : FrameFault → ClientFault → Type 0
IsFault FrameFailed f = f ≡ Failed
IsFault FrameNoMemory f = f ≡ NoMemory

-- the reply of this head begins so, and is read
pub record IsBegun (head : ResponseHead) (b : Begun) : Type 0 where
  pub len : b.len ≡ length (print_response head)
  pub body : length_of head ≡ Some b.body
  pub small : b.body ≤ body_limit
  pub status : b.status ≡ status_code head
  pub is_final : 200 ≤ b.status
  pub short : b.status ≤ 999
  pub close : b.close ≡ (head.minor == 0 || asks_close (fields_of head))

-- the bytes begin with a whole head, whose reply begins so
pub record Begins (bytes : List ℕ) (b : Begun) : Type 0 where
  pub head : ResponseHead
  pub is_head : IsResponseHead head
  pub front : take b.len bytes ≡ print_response head
  pub whole : b.len ≤ length bytes
  pub within : b.len ≤ head_limit
  pub begun : IsBegun head b

-- what was found out about the bytes in which a head is looked for
abbrev pub Judges : List ℕ → Judged → Type 0
Judges window Open = HasNoResponse window
Judges window Unread = NeverHasResponse window ⊎ ((h : ResponseHead) × (rest : List ℕ) × HasHead window h rest × (length_of h ≡ None))
Judges window (Head b) = Begins window b

-- the same of all that is kept
abbrev pub Stands : List ℕ → Judged → Type 0
Stands kept Open = HasNoResponse (window kept)
Stands kept Unread = HasNone kept
Stands kept (Head b) = Begins kept b

-- more was read behind the old bytes
abbrev pub Grows : Option (List ℕ) → Option (List ℕ) → List ℕ → List ℕ → Type 0
Grows before after old new = (read : List ℕ) × IsRead before read after × (new ≡ old ++ read)

-- why no reply that is read stands in the kept bytes
abbrev pub Lacks : List ℕ → ClientFault → Type 0
Lacks kept Failed = ⊤
Lacks kept Ended = IsUnfinished kept
Lacks kept Unreadable = HasNone kept
Lacks kept NoMemory = ⊤

-- what was read, and what it makes of the bytes that were kept
abbrev pub Told : Option (List ℕ) → Option (List ℕ) → List ℕ → Result Response ClientFault → List ℕ → Type 0
Told before after old result new =
    (read : List ℕ) × IsRead before read after
    × MatchResult result (λ r. HasReply (old ++ read) r new) (λ f. Leaves (old ++ read) f new)
