-- The reply at the front of a stream of bytes (RFC 9112). The grammar of a head is that of `httparse`; the rest of the rules stand here.
use Rattle.std.specs.Prelude.{◌≡◌, ◌+◌, ◌<◌, ◌≤◌, ◌||◌, ◌⊎◌, ℕ, ◌==◌, List, ◌++◌, length, map, nat_lt, if◌then◌else◌, Option, Some, None}
use Rattle.std.specs.Str.Parse.{digits_value}
use Rattle.rg_base.specs.Listed.{listed}
use Rattle.httparse.specs.Grammar.{ResponseHead, HasNoResponse, NeverHasResponse, ReadsResponse, print_response, status_code}
use Rattle.httparse.specs.Spans.{name_and_value}
use Rattle.rg_http.specs.declared.fields.FieldName.TheVariants.{ContentLength}
use Rattle.rg_http.specs.declared.message.Response.{Response}
use Rattle.rg_http.specs.Answers.{piece_limit}
use Rattle.rg_http.specs.Fields.{values, first}
use Rattle.rg_http.specs.Framing.{head_limit, window}
use Rattle.rg_http.specs.Print.{is_bare}
use Rattle.rg_http.specs.Rules.{asks_close, field_limit, is_coded, is_length}
use Rattle.rg_client.specs.declared.fault.ClientFault.{ClientFault}
use Rattle.rg_client.specs.declared.fault.ClientFault.TheVariants.{Failed, Ended, Unreadable, NoMemory}

-- the most bytes of a reply's body: 256 MiB
abbrev pub body_limit : ℕ
body_limit = 268435456

-- the names and values of a head's fields
abbrev pub fields_of : ResponseHead → List (List ℕ × List ℕ)
fields_of h = map name_and_value h.fields

-- a body of so many bytes, unless it is too long
abbrev pub sized : ℕ → Option ℕ
sized n = if nat_lt body_limit n then None else Some n

-- by the value of Content-Length, which is needed
abbrev pub by_length : Option (List ℕ) → Option ℕ
by_length None = None
by_length (Some value) = if is_length value then sized (digits_value 10 value) else None

-- How many bytes the body has; none where the reply isn't read: it has more than 64 fields, isn't final (its status is below 200), comes in
-- a coding, or has no one Content-Length of at most 256 MiB. A reply with status 204 or 304 has no body.
unfoldable pub body_length : ℕ → List (List ℕ × List ℕ) → Option ℕ
body_length status fields =
    if nat_lt field_limit (length fields) then None else
    if nat_lt status 200 then None else
    if is_bare status then Some 0 else
    if is_coded fields then None else
    if nat_lt 1 (length (values ContentLength fields)) then None else
    by_length (first (values ContentLength fields))

abbrev pub length_of : ResponseHead → Option ℕ
length_of h = body_length (status_code h) (fields_of h)

-- the reply of a head and a body; version 1.0 always closes
abbrev pub reply_of : ResponseHead → List ℕ → Response
reply_of h body = record { status = status_code h; body = listed body; close = h.minor == 0 || asks_close (fields_of h) }

-- the head h stands at the front, within the limit, and rest follows
abbrev pub HasHead : List ℕ → ResponseHead → List ℕ → Type 0
HasHead bytes h rest = ReadsResponse bytes h rest × (length (print_response h) ≤ head_limit)

-- the reply r stands at the front, and rest follows
abbrev pub HasReply : List ℕ → Response → List ℕ → Type 0
HasReply bytes r rest =
    (h : ResponseHead) × (body : List ℕ) × HasHead bytes h (body ++ rest) × (length_of h ≡ Some (length body)) × (r ≡ reply_of h body)

-- what stands at the front becomes no reply that is read, whatever follows
abbrev pub HasNone : List ℕ → Type 0
HasNone bytes =
    NeverHasResponse (window bytes)
    ⊎ (((head_limit ≤ length bytes) × HasNoResponse (window bytes))
    ⊎ ((h : ResponseHead) × (rest : List ℕ) × HasHead bytes h rest × (length_of h ≡ None)))

-- a head that begins here, or its body, isn't whole
abbrev pub IsUnfinished : List ℕ → Type 0
IsUnfinished bytes =
    ((length bytes < head_limit) × HasNoResponse bytes)
    ⊎ ((h : ResponseHead) × (rest : List ℕ) × (n : ℕ) × HasHead bytes h rest × (length_of h ≡ Some n) × (length rest < n))

-- what a fault leaves of the bytes read so far: all of them. Where the link ended no reply stands in them
abbrev pub Leaves : List ℕ → ClientFault → List ℕ → Type 0
Leaves bytes Failed kept = kept ≡ bytes
Leaves bytes Ended kept = IsUnfinished bytes × (kept ≡ bytes)
Leaves bytes Unreadable kept = HasNone bytes × (kept ≡ bytes)
Leaves bytes NoMemory kept = kept ≡ bytes

-- the most bytes that are ever kept: a head, its body and what the last piece brought besides
abbrev pub kept_limit : ℕ
kept_limit = head_limit + body_limit + piece_limit

-- the link's count of faults rises where the fault is the link's, and else stands still
abbrev pub Counts : ClientFault → ℕ → ℕ → Type 0
Counts Failed before after = before < after
Counts Ended before after = after ≡ before
Counts Unreadable before after = after ≡ before
Counts NoMemory before after = after ≡ before
