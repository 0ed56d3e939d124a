-- What a whole head asks of the framing, by its method and its fields. The rules are tried in this order.
use Rattle.std.specs.Prelude.{ℕ, ◌≤◌, ⊤, List, length, Bool, nat_lt, nat_le, ◌&&◌, ◌||◌, if◌then◌else◌, Option, Some, None, codes}
use Rattle.std.specs.List.{list_all, list_any}
use Rattle.std.specs.Char.{is_ascii_digit}
use Rattle.std.specs.Str.{bytes_eq}
use Rattle.std.specs.Str.Parse.{digits_value}
use Rattle.rg_http.specs.declared.fields.FieldName.TheVariants.{ContentLength, TransferEncoding, ContentEncoding, Connection}
use Rattle.rg_http.specs.declared.rules.Ruling.{Ruling}
use Rattle.rg_http.specs.declared.rules.Ruling.TheVariants.{Refused, Body}
use Rattle.rg_http.specs.Fields.{values, first, is_same_folded}

-- the most fields of a head
abbrev pub field_limit : ℕ
field_limit = 64

-- the most bytes of a body
abbrev pub body_limit : ℕ
body_limit = 1048576

-- 1 to 19 decimal digits
unfoldable pub is_length : List ℕ → Bool
is_length value = nat_lt 0 (length value) && (nat_le (length value) 19 && list_all is_ascii_digit value)

-- a method that needs a Content-Length
unfoldable pub needs_length : List ℕ → Bool
needs_length method = bytes_eq method (codes "POST") || bytes_eq method (codes "PUT")

-- the body comes in a coding that isn't read
unfoldable pub is_coded : List (List ℕ × List ℕ) → Bool
is_coded fields = nat_lt 0 (length (values TransferEncoding fields)) || nat_lt 0 (length (values ContentEncoding fields))

-- a body of so many bytes, or 413 where it is too long
abbrev pub sized : ℕ → Ruling
sized n = if nat_lt body_limit n then Refused 413 else Body n

-- by the value of Content-Length; without it the body is empty, or 411 where the method needs one
abbrev pub by_length : List ℕ → Option (List ℕ) → Ruling
by_length method None = if needs_length method then Refused 411 else Body 0
by_length method (Some value) = if is_length value then sized (digits_value 10 value) else Refused 400

-- the first rule that fits
unfoldable pub ruling : List ℕ → List (List ℕ × List ℕ) → Ruling
ruling method fields =
    if nat_lt field_limit (length fields) then Refused 431 else
    if is_coded fields then Refused 501 else
    if nat_lt 1 (length (values ContentLength fields)) then Refused 400 else
    by_length method (first (values ContentLength fields))

-- a Connection field has the value `close`
unfoldable pub asks_close : List (List ℕ × List ℕ) → Bool
asks_close fields = list_any (is_same_folded (codes "close")) (values Connection fields)

-- no body that is to be read is over the limit
abbrev pub IsSized : Ruling → Type 0
IsSized (Refused status) = ⊤
IsSized (Body n) = n ≤ body_limit
