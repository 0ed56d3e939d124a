-- The bytes of a response (RFC 9112, section 4). The phrase of a status is that of `http`.
use Rattle.std.specs.Prelude.{ℕ, ◌==◌, ◌||◌, List, [], ◌++◌, length, Bool, if◌then◌else◌, nat_lt, codes, decimal}
use Rattle.http.specs.StatusCode.{status_text}
use Rattle.rg_http.specs.declared.message.Response.{Response}

-- a response with this status has no length (204 No Content, 304 Not Modified)
abbrev pub is_bare : ℕ → Bool
is_bare status = status == 204 || status == 304

-- HTTP/1.1, the status, a space and its phrase
abbrev pub status_line : ℕ → List ℕ
status_line status = codes "HTTP/1.1 " ++ (status_text status ++ codes "\r\n")

-- where the connection is to be closed
abbrev pub close_line : Bool → List ℕ
close_line close = if close then codes "Connection: close\r\n" else []

-- where the body isn't empty
abbrev pub type_line : ℕ → List ℕ
type_line len = if nat_lt 0 len then codes "Content-Type: application/json\r\n" else []

-- how long the body is, and of what type
abbrev pub length_lines : ℕ → ℕ → List ℕ
length_lines status len = if is_bare status then [] else codes "Content-Length: " ++ (decimal len ++ (codes "\r\n" ++ type_line len))

-- the lines in order, an empty line, and the body
abbrev pub response_text : Response → List ℕ
response_text r =
    status_line r.status ++ (close_line r.close ++ (length_lines r.status (length r.body.items) ++ (codes "\r\n" ++ r.body.items)))
