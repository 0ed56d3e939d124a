-- The numbers that digits write.
use Rattle.std.proofs.Common.{◌≡◌, ◌<◌, ◌≤◌, ◌^◌, ◌&&◌, ℕ, ℤ, pos, w64, List, [], ◌∷◌, length, true, nat_le, Result, Ok, Err, refl, ap, arith}
use Rattle.std.specs.Char.{is_ascii_digit}
use Rattle.std.specs.List.{list_all}
use Rattle.std.specs.Result.{OkIff}
use Rattle.std.specs.Str.{all_ascii_digits}
use Rattle.std.specs.Str.Parse.{ParsesSigned, ParsesUnsigned, digits_value}
use Rattle.std.proofs.lemmas.Bool.Decides.{nat_tests}
use Rattle.std.proofs.lemmas.Str.Parse.{IsNumeralModel, digits_value_short, numerals_by_value, parse_gives, parse_signed_digits, tells_all_ascii_digits}
use Rattle.rg_rest.specs.Query.{is_number}
use Rattle.rg_rest.proofs.Both.{both_true}

digits_alike : (text : List ℕ) → all_ascii_digits text ≡ list_all is_ascii_digit text
digits_alike [] = refl
digits_alike (c ∷ cs) = ap (λ b. is_ascii_digit c && b) (digits_alike cs)

own : IsNumeralModel (λ ds. all_ascii_digits ds ≡ true) (digits_value 10)
own = numerals_by_value (λ ds. all_ascii_digits ds ≡ true) tells_all_ascii_digits

-- what a text of digits says: how many there are at most, and what they are
pub record Digits (most : ℕ) (text : List ℕ) : Type 0 where
  pub some : 0 < length text
  pub few : length text ≤ most
  pub digits : all_ascii_digits text ≡ true

pub number_digits : (most : ℕ) (text : List ℕ) → is_number most text ≡ true → Digits most text
number_digits most text e =
    let first = both_true (nat_le 1 (length text)) (nat_le (length text) most && list_all is_ascii_digit text) e in
    let rest = both_true (nat_le (length text) most) (list_all is_ascii_digit text) first.1 in
    record { some = grind (arith, nat_tests, first.0); few = grind (arith, nat_tests, rest.0); digits = rw (digits_alike text) rest.1 }

-- 19 digits are within 64 bits
pub count_read : {E : Type 0} (text : List ℕ) (r : Result ℕ E) → ParsesUnsigned 64 10 text r → is_number 19 text ≡ true → r ≡ Ok (digits_value 10 text)
count_read text r h e =
    let d = number_digits 19 text e in
    parse_gives own 64 text r h d.digits d.some (omega (arith, digits_value_short own text 19 d.digits d.few))

read_or_not : {E : Type 0} (r : Result ℤ E) (some small : Type 0) (v : ℤ) → OkIff r (some × small) v → some → small → r ≡ Ok v
read_or_not (Ok x) some small v h s t = ap Ok h.1
read_or_not (Err e) some small v h s t = absurd (h (s, t))

-- and 18 digits within those of an id
pub id_read : {E : Type 0} (digits : List ℕ) (r : Result ℤ E) → ParsesSigned w64 10 digits r → is_number 18 digits ≡ true → r ≡ Ok (pos (digits_value 10 digits))
id_read digits r h e =
    let d = number_digits 18 digits e in
    read_or_not r (0 < length digits) (digits_value 10 digits < 2 ^ 63) (pos (digits_value 10 digits)) (parse_signed_digits own w64 digits r h d.digits) d.some
    (omega (arith, digits_value_short own digits 18 d.digits d.few))

pub ruleset numbers = (count_read, id_read)
