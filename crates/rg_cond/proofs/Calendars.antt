-- The tests of dates and times of day, against `jiff`'s facts.
use Rattle.std.proofs.Common.{◌≡◌, ℕ, ◌≤◌, ◌<◌, pos, nat_le, nat_lt, Bool, true, false, ◌&&◌, ◌↔◌, List, refl, sym, arith}
use Rattle.std.proofs.lemmas.Bool.Decides.{nat_tests}
use Rattle.jiff_core.specs.Calendar.{IsDate, days_in_month}
use Rattle.jiff_core.specs.Time.{IsTime}
use Rattle.jiff_core.proofs.SignedLemmas.{signed_arith}
use Rattle.rg_cond.specs.Dates.{is_date, is_time, begins_with_date, ends_with_time}
use Rattle.rg_cond.specs.Digits.{two_at, four_at}
use Rattle.std.proofs.lemmas.Bool.{and_from, and_parts}

le_yes : (a b : ℕ) → a ≤ b → nat_le a b ≡ true
le_yes a b h = grind (arith, nat_tests)

le_fact : (a b : ℕ) → nat_le a b ≡ true → a ≤ b
le_fact a b h = grind (arith, nat_tests)

lt_yes : (a b : ℕ) → a < b → nat_lt a b ≡ true
lt_yes a b h = grind (arith, nat_tests)

lt_fact : (a b : ℕ) → nat_lt a b ≡ true → a < b
lt_fact a b h = grind (arith, nat_tests)

-- two answers to one question
pub same_answer : {P : Type 0} (a b : Bool) → (a ≡ true ↔ P) → (P → b ≡ true) → (b ≡ true → P) → a ≡ b
same_answer true b p q r = sym (q (p.0 refl))
same_answer false true p q r = p.1 (r refl)
same_answer false false p q r = refl

date_yes : (y m d : ℕ) → IsDate (pos y) (pos m) (pos d) → is_date y m d ≡ true
date_yes y m d h =
    let a : 1 ≤ m = omega (arith, signed_arith) in
    let b : m ≤ 12 = omega (arith, signed_arith) in
    let e : 1 ≤ d = omega (arith, signed_arith) in
    let f : d ≤ days_in_month (pos y) m = omega (arith, signed_arith) in
    and_from _ _ (le_yes 1 m a) (and_from _ _ (le_yes m 12 b) (and_from _ _ (le_yes 1 d e) (le_yes d _ f)))

date_fact : (y m d : ℕ) → y ≤ 9999 → is_date y m d ≡ true → IsDate (pos y) (pos m) (pos d)
date_fact y m d year h =
    let later : (nat_le m 12 && (nat_le 1 d && nat_le d (days_in_month (pos y) m))) ≡ true = (and_parts _ _ h).1 in
    let days : (nat_le 1 d && nat_le d (days_in_month (pos y) m)) ≡ true = (and_parts _ _ later).1 in
    let a : 1 ≤ m = le_fact 1 m (and_parts (nat_le 1 m) _ h).0 in
    let b : m ≤ 12 = le_fact m 12 (and_parts _ (nat_le 1 d && nat_le d (days_in_month (pos y) m)) later).0 in
    let e : 1 ≤ d = le_fact 1 d (and_parts _ (nat_le d (days_in_month (pos y) m)) days).0 in
    let f : d ≤ days_in_month (pos y) m = le_fact d (days_in_month (pos y) m) (and_parts (nat_le 1 d) _ days).1 in
    ((omega (arith, signed_arith), omega (arith, signed_arith)), (omega (arith, signed_arith), omega (arith, signed_arith)), (omega (arith, signed_arith), omega (arith, signed_arith)))

time_yes : (h m s : ℕ) → IsTime (pos h) (pos m) (pos s) (pos 0) → is_time h m s ≡ true
time_yes h m s t =
    let a : h < 24 = omega (arith, signed_arith) in
    let b : m < 60 = omega (arith, signed_arith) in
    let e : s < 60 = omega (arith, signed_arith) in
    and_from _ _ (lt_yes h 24 a) (and_from _ _ (lt_yes m 60 b) (lt_yes s 60 e))

time_fact : (h m s : ℕ) → is_time h m s ≡ true → IsTime (pos h) (pos m) (pos s) (pos 0)
time_fact h m s t =
    let later : (nat_lt m 60 && nat_lt s 60) ≡ true = (and_parts _ _ t).1 in
    let a : h < 24 = lt_fact h 24 (and_parts _ _ t).0 in
    let b : m < 60 = lt_fact m 60 (and_parts _ (nat_lt s 60) later).0 in
    let e : s < 60 = lt_fact s 60 (and_parts (nat_lt m 60) _ later).1 in
    ((omega (arith, signed_arith), omega (arith, signed_arith)), (omega (arith, signed_arith), omega (arith, signed_arith)), (omega (arith, signed_arith), omega (arith, signed_arith)), (omega (arith, signed_arith), omega (arith, signed_arith)))

-- a constructor of `jiff` takes the date, or the time of day, just where the test does
pub date_taken : (text : List ℕ) (taken : Bool) → four_at text 0 ≤ 9999
    → (taken ≡ true ↔ IsDate (pos (four_at text 0)) (pos (two_at text 5)) (pos (two_at text 8))) → taken ≡ begins_with_date text
unfolding begins_with_date
date_taken text taken year h = same_answer taken _ h (date_yes _ _ _) (date_fact _ _ _ year)

pub time_taken : (text : List ℕ) (taken : Bool)
    → (taken ≡ true ↔ IsTime (pos (two_at text 11)) (pos (two_at text 14)) (pos (two_at text 17)) (pos 0)) → taken ≡ ends_with_time text
unfolding ends_with_time
time_taken text taken h = same_answer taken _ h (time_yes _ _ _) (time_fact _ _ _)
