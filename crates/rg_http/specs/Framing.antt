-- The messages in a stream of bytes (RFC 9112). The grammar of a head is that of `httparse`; the rest of the rules stand here and in
-- `Rules`. All of it speaks of the bytes alone.
use Rattle.std.specs.Prelude.{◌≡◌, ◌<◌, ◌≤◌, ◌||◌, ◌⊎◌, not, ℕ, ◌==◌, List, [], ◌∷◌, ◌++◌, length, take, map, Bool, option_map}
use Rattle.std.specs.Str.{chars}
use Rattle.rg_base.specs.Listed.{listed}
use Rattle.httparse.specs.Ascii.{line_feed, carriage_return, space}
use Rattle.httparse.specs.Grammar.{AllPass, IsToken, LineEnd, print_blank, RequestHead, print_request, ReadsRequest, HasNoRequest, NeverHasRequest}
use Rattle.httparse.specs.Spans.{name_and_value}
use Rattle.rg_http.specs.declared.fields.FieldName.TheVariants.{User}
use Rattle.rg_http.specs.declared.rules.Ruling.{Ruling}
use Rattle.rg_http.specs.declared.rules.Ruling.TheVariants.{Refused, Body}
use Rattle.rg_http.specs.declared.message.Message.{Message}
use Rattle.rg_http.specs.Fields.{values, first}
use Rattle.rg_http.specs.Rules.{ruling, asks_close}

-- how many bytes of a message's place its head is looked for in
abbrev pub head_limit : ℕ
head_limit = 16384

-- these bytes
abbrev pub window : List ℕ → List ℕ
window bytes = take head_limit bytes

-- the names and values of a head's fields
abbrev pub fields_of : RequestHead → List (List ℕ × List ℕ)
fields_of h = map name_and_value h.fields

-- what the rules make of a head
abbrev pub ruling_of : RequestHead → Ruling
ruling_of h = ruling h.method (fields_of h)

-- the message of a head and a body; version 1.0 always asks to close
abbrev pub message_of : RequestHead → List ℕ → Message
message_of h body = record {
  method = chars h.method;
  target = chars h.target;
  user = option_map listed (first (values User (fields_of h)));
  body = listed body;
  close = h.minor == 0 || asks_close (fields_of h);
}

-- a byte that ends the target, or the line
abbrev pub ends_target : ℕ → Bool
ends_target b = b == space || (b == carriage_return || b == line_feed)

-- bytes that aren't judged until more come: after any empty lines a method, one space, and then no space, CR or LF
abbrev pub IsUnjudged : List ℕ → Type 0
IsUnjudged bytes =
    (blank : List LineEnd) × (method : List ℕ) × (target : List ℕ)
    × IsToken method × AllPass (λ b. not (ends_target b)) target × (bytes ≡ print_blank blank ++ method ++ space ∷ target)

-- judged bytes that begin with no head, whatever follows
abbrev pub IsHopeless : List ℕ → Type 0
IsHopeless bytes = NeverHasRequest bytes × ¬ (IsUnjudged bytes)

-- bytes that begin with no head so far: some that may follow make one, or they aren't judged yet
abbrev pub IsOpen : List ℕ → Type 0
IsOpen bytes =
    HasNoRequest bytes
    × (((more : List ℕ) × (h : RequestHead) × ReadsRequest (bytes ++ more) h []) ⊎ IsUnjudged bytes)

-- the head h stands at the front, within the limit, and rest follows
abbrev pub HasHead : List ℕ → RequestHead → List ℕ → Type 0
HasHead bytes h rest = ReadsRequest bytes h rest × (length (print_request h) ≤ head_limit)

-- the message m stands at the front, and rest follows
abbrev pub HasMessage : List ℕ → Message → List ℕ → Type 0
HasMessage bytes m rest =
    (h : RequestHead) × (body : List ℕ) × HasHead bytes h (body ++ rest)
    × (ruling_of h ≡ Body (length body)) × (m ≡ message_of h body)

-- what stands in the place of a message is answered with this status: 400 where it becomes no head, 431 where it is too long, or as
-- the rules on its head say
abbrev pub HasBad : List ℕ → ℕ → Type 0
HasBad bytes status =
    ((status ≡ 400) × IsHopeless (window bytes))
    ⊎ (((status ≡ 431) × (head_limit ≤ length bytes) × IsOpen (window bytes))
    ⊎ ((h : RequestHead) × (rest : List ℕ) × HasHead bytes h rest × (ruling_of h ≡ Refused status)))

-- a head that begins here, or its body, isn't whole
abbrev pub IsUnfinished : List ℕ → Type 0
IsUnfinished bytes =
    ((length bytes < head_limit) × IsOpen bytes)
    ⊎ ((h : RequestHead) × (rest : List ℕ) × (n : ℕ) × HasHead bytes h rest × (ruling_of h ≡ Body n) × (length rest < n))
