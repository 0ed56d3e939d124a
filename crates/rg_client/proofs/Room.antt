-- No window holds so many fields that the room is too small.
use Rattle.std.proofs.Common.{◌≤◌, ◌*◌, ℕ, List, [], ◌∷◌, ◌++◌, length, All, sym, ap, ◌∙◌, arith, length-append, append-nil}
use Rattle.std.specs.List.{flat_map}
use Rattle.std.proofs.lemmas.List.Elements.{All-head, All-tail}
use Rattle.httparse.specs.Grammar.{LineEnd, crlf, lf, print_end, print_blank, print_version, print_reason, Field, print_field, IsField, ResponseHead, print_response}
use Rattle.httparse.specs.Spans.{ResponseExceeds}
use Rattle.rg_http.specs.Framing.{head_limit}
use Rattle.rg_http.specs.Places.{field_room}

end_length : (end : LineEnd) → 1 ≤ length (print_end end)
end_length crlf = omega arith
end_length lf = omega arith

field_length : (f : Field) → IsField f → 3 ≤ length (print_field f)
field_length f x = let some = x.name.0 in let end = end_length f.end in grind (arith, length-append)

fields_length : (fields : List Field) → All IsField fields → 3 * length fields ≤ length (flat_map print_field fields)
fields_length [] x = omega arith
fields_length (f ∷ fields) x =
    let one = field_length f (All-head IsField f fields x) in
    let more = fields_length fields (All-tail IsField f fields x) in
    let both = length-append (print_field f) (flat_map print_field fields) in
    omega (arith, one, more, both)

inner_fits : (a b c d e f g : List ℕ) → length f ≤ length (a ++ b ++ 32 ∷ c ++ d ++ e ++ (f ++ g))
inner_fits a b c d e f g = grind (arith, length-append)

fields_long : (h : ResponseHead) → All IsField h.fields → 3 * length h.fields ≤ length (print_response h)
unfolding print_response
fields_long h x =
    let most = inner_fits (print_blank h.blank) (print_version h.minor) h.digits (print_reason h.reason) (print_end h.line_end) (flat_map print_field h.fields) (print_end h.last) in
    let some = fields_length h.fields x in
    omega (arith, most, some)

pub room_enough : (bytes : List ℕ) (room : ℕ) → length bytes ≤ head_limit → field_room ≤ room → ResponseExceeds room bytes → ⊥
room_enough bytes room l r x =
    let front = length-append x.0 x.1 in
    let whole = ap length x.2 in
    let most = fields_long x.3 x.4.0.fields in
    let read = ap length (sym (x.4.1 ∙ append-nil (print_response x.3))) in
    let ended = length-append x.0 (10 ∷ []) in
    let many = x.5 in
    omega (arith, front, whole, most, read, ended, many)
