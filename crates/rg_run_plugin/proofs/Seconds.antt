-- The number that a word writes.
use Rattle.std.proofs.Common.{◌≡◌, ◌<◌, ◌^◌, ◌&&◌, ℕ, List, [], ◌∷◌, length, true, false, nat_le, Option, None, Result, Ok, Err, refl, ap, arith}
use Rattle.std.specs.Char.{is_ascii_digit}
use Rattle.std.specs.List.{list_all}
use Rattle.std.specs.Result.{OkIff}
use Rattle.std.specs.Str.{all_ascii_digits}
use Rattle.std.specs.Str.Parse.{ParsesUnsigned, digits_value}
use Rattle.std.proofs.lemmas.Bool.{and_parts}
use Rattle.std.proofs.lemmas.Bool.Decides.{nat_tests}
use Rattle.std.proofs.lemmas.Str.Parse.{numerals_by_value, parse_digits, tells_all_ascii_digits}
use Rattle.rg_run_plugin.specs.Words.{is_numeral, seconds_of, within_a_day}

digits_alike : (word : List ℕ) → all_ascii_digits word ≡ list_all is_ascii_digit word
digits_alike [] = refl
digits_alike (c ∷ cs) = ap (λ b. is_ascii_digit c && b) (digits_alike cs)

-- the seconds that a number that was read stands for
abbrev pub seconds_in : {E : Type 0} → Result ℕ E → Option ℕ
seconds_in (Ok n) = within_a_day n
seconds_in (Err e) = None

fits : {E : Type 0} (r : Result ℕ E) (some : Type 0) (v : ℕ) → OkIff r (some × (v < 2 ^ 64)) v → some → seconds_in r ≡ within_a_day v
fits (Ok n) some v h s = ap within_a_day h.1
fits (Err e) some v h s =
    let no : v < 2 ^ 64 → ⊥ = λ lt. h (s, lt) in
    let low : nat_le 1 v ≡ true = grind (arith, nat_tests) in
    let high : nat_le v 86400 ≡ false = grind (arith, nat_tests) in rw (low, high) refl

pub read_seconds : {E : Type 0} (word : List ℕ) (r : Result ℕ E) → ParsesUnsigned 64 10 word r → is_numeral word ≡ true → seconds_in r ≡ seconds_of word
unfolding seconds_of
read_seconds word r h numeral =
    let first = and_parts (nat_le 1 (length word)) (nat_le (length word) 5 && list_all is_ascii_digit word) numeral in
    let digits : all_ascii_digits word ≡ true = rw (digits_alike word) (and_parts (nat_le (length word) 5) (list_all is_ascii_digit word) first.1).1 in
    let some : 0 < length word = grind (arith, nat_tests, first.0) in
    rw numeral (fits r (0 < length word) (digits_value 10 word) (parse_digits (numerals_by_value (λ ds. all_ascii_digits ds ≡ true) tells_all_ascii_digits) 64 word r h digits) some)
