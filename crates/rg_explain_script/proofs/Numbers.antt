-- A number among the words.
use Rattle.std.proofs.Common.{◌≡◌, ◌<◌, ◌^◌, ◌&&◌, ◌==◌, not, ℕ, List, [], ◌∷◌, length, true, false, cond, nat_lt, Some, None, Result, Ok, Err, refl, ap, arith}
use Rattle.std.specs.Char.{is_ascii_digit}
use Rattle.std.specs.List.{list_all}
use Rattle.std.specs.Result.{OkIff, result_ok}
use Rattle.std.specs.Str.{all_ascii_digits}
use Rattle.std.specs.Str.Parse.{ParsesUnsigned, digits_value}
use Rattle.std.proofs.lemmas.Bool.Decides.{nat_tests}
use Rattle.std.proofs.lemmas.Str.Parse.{numerals_by_value, parse_digits, tells_all_ascii_digits}
use Rattle.clap.proofs.WalkLemmas.{both}
use Rattle.rg_explain_script.specs.Words.{is_numeral, number_of}

digits_alike : (word : List ℕ) → all_ascii_digits word ≡ list_all is_ascii_digit word
digits_alike [] = refl
digits_alike (c ∷ cs) = ap (λ b. is_ascii_digit c && b) (digits_alike cs)

fits : {E : Type 0} (r : Result ℕ E) (some : Type 0) (v bound : ℕ) → OkIff r (some × (v < bound)) v → some → result_ok r ≡ cond (nat_lt v bound) (Some v) None
fits (Ok x) some v bound h s = let t : nat_lt v bound ≡ true = grind (arith, nat_tests, h.0.1) in rw t (ap Some h.1)
fits (Err e) some v bound h s =
    let no : v < bound → ⊥ = λ lt. h (s, lt) in
    let t : nat_lt v bound ≡ false = grind (arith, nat_tests) in rw t refl

digits_in : (word : List ℕ) → is_numeral word ≡ true → (0 < length word) × (list_all is_ascii_digit word ≡ true)
digits_in [] numeral = absurd (cc numeral)
digits_in (c ∷ cs) numeral = (omega arith, (both (not (c == 48)) (list_all is_ascii_digit (c ∷ cs)) numeral).1)

pub read_number : {E : Type 0} (word : List ℕ) (r : Result ℕ E) → ParsesUnsigned 32 10 word r → is_numeral word ≡ true → result_ok r ≡ number_of word
unfolding number_of
read_number word r h numeral =
    let digits : all_ascii_digits word ≡ true = rw (digits_alike word) (digits_in word numeral).1 in
    rw numeral (fits r (0 < length word) (digits_value 10 word) (2 ^ 32) (parse_digits (numerals_by_value (λ ds. all_ascii_digits ds ≡ true) tells_all_ascii_digits) 32 word r h digits) (digits_in word numeral).0)
