-- Bytes that are too long.
use Rattle.std.proofs.Common.{◌≡◌, ◌<◌, ◌≤◌, ◌-◌, ℕ, List, [], ◌∷◌, ◌++◌, length, take, Bool, true, false, nat_lt, Option, Some, None, option_and_then, IfSome, refl, arith, length-append, length-take}
use Rattle.std.specs.Prelude.{is_none, ◌||◌}
use Rattle.std.proofs.lemmas.Bool.Decides.{nat_tests}
use Rattle.rg_ports.specs.Bytes.{Gave}
use Rattle.rg_run_script.specs.Limits.{limit, room, byte_after, line_after, is_too_long}
use Rattle.rg_run_script.specs.Runs.{Overran}
use Rattle.rg_run_script.specs.Streams.{HasRead}
use Rattle.rg_run_script.proofs.Streams.{read_more}

-- the bytes before come first
line_after-append : (n : ℕ) (xs ys : List ℕ) → line_after n (xs ++ ys) ≡ option_and_then (λ m. line_after m ys) (line_after n xs)
line_after-append n [] ys = refl
line_after-append n (x ∷ xs) ys =
    elim (byte_after n x) as (λ o. option_and_then (λ m. line_after m (xs ++ ys)) o
    ≡ option_and_then (λ m. line_after m ys) (option_and_then (λ m. line_after m xs) o)) [
      | None ↦ refl
      | Some m ↦ line_after-append m xs ys
    ]

or_true : (p : Bool) → (p || true) ≡ true
or_true true = refl
or_true false = refl

either_stays : (p q : Bool) (line : Option ℕ) (f : ℕ → Option ℕ) → (p ≡ true → q ≡ true) → (p || is_none line) ≡ true
    → (q || is_none (option_and_then f line)) ≡ true
either_stays true q line f more h = rw (more refl) refl
either_stays false q None f more h = or_true q
either_stays false q (Some n) f more h = cc

-- more bytes keep it so
too_long_front : (xs ys : List ℕ) → is_too_long xs ≡ true → is_too_long (xs ++ ys) ≡ true
unfolding is_too_long
too_long_front xs ys h = rw line_after-append (either_stays (nat_lt limit (length xs)) (nat_lt limit (length (xs ++ ys))) (line_after 0 xs)
    (λ m. line_after m ys) (λ e. grind (arith, nat_tests, length-append xs ys)) h)

-- what was read is too long, and so is all
pub all_too_long : (all left : Option (List ℕ)) (got : List ℕ) → HasRead all got left → is_too_long got ≡ true
    → IfSome all (λ bytes. is_too_long bytes ≡ true)
all_too_long None left got has h = tt
all_too_long (Some bytes) None got has h = absurd has
all_too_long (Some bytes) (Some rest) got has h = rw has (too_long_front got rest h)

-- neither limit is passed
pub within_limits : (bytes : List ℕ) (n : ℕ) → length bytes ≤ limit → line_after 0 bytes ≡ Some n → is_too_long bytes ≡ false
unfolding is_too_long
within_limits bytes n h line = rw line (grind (arith, nat_tests))

-- there are too many bytes in all
pub too_many : (bytes : List ℕ) → limit < length bytes → is_too_long bytes ≡ true
unfolding is_too_long
too_many bytes h = grind (arith, nat_tests)

-- a piece that makes the last line too long
pub too_long_line : (bytes piece : List ℕ) (n : ℕ) → line_after 0 bytes ≡ Some n → line_after n piece ≡ None → is_too_long (bytes ++ piece) ≡ true
unfolding is_too_long
too_long_line bytes piece n line h = rw (line_after-append, line, h) (or_true (nat_lt limit (length (bytes ++ piece))))

-- a piece that the last line has room for
pub line_with : (bytes piece : List ℕ) (n m : ℕ) → line_after 0 bytes ≡ Some n → line_after n piece ≡ Some m → line_after 0 (bytes ++ piece) ≡ Some m
line_with bytes piece n m line h = rw (line_after-append, line) h

-- a read gives n bytes of the room, behind those that are within the limits
module _ (left now left' : Option (List ℕ)) (got : List ℕ) (line n : ℕ) (given : List ℕ) (has : HasRead left got now) (gave : Gave now left' n given)
    (few : length got ≤ limit) (is_line : line_after 0 got ≡ Some line) (fits : n ≤ room) (whole : n ≤ length given) where
  stops : is_too_long (got ++ take n given) ≡ true → Overran left left'
  stops over = record {
    bytes = got;
    last = take n given;
    read = read_more left now left' got n given has gave;
    within = within_limits got line few is_line;
    over = over;
    one = omega (arith, length-take n given);
  }

  pub over_many : limit - length got < n → Overran left left'
  over_many more = stops (too_many (got ++ take n given) (omega (arith, length-append got (take n given), length-take n given)))

  pub over_line : line_after line (take n given) ≡ None → Overran left left'
  over_line long = stops (too_long_line got (take n given) line is_line long)
