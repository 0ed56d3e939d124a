-- Instants of the calendar, of zones and of `jiff`.
use Rattle.std.proofs.Common.{◌≡◌, ℕ, List, ◌*◌, ◌/◌, zero, suc, ℤ, pos, negsuc, neg_ℤ, ◌+ℤ◌, ◌-ℤ◌, ◌*ℤ◌, ◌≤ℤ◌, int_le, int_lt, Bool, true, false, not, if◌then◌else◌, Option, Some, None, is_some, IsTrue, option_map, refl, sym, ap, ◌∙◌, arith, lit<, FitsSigned, w64, to_z, of_z}
use Rattle.std.proofs.lemmas.Bool.{and_from, and_parts}
use Rattle.std.proofs.lemmas.Int.{to_z-of_z}
use Rattle.rg_base.specs.declared.numbers.Moment.{Moment}
use Rattle.std.proofs.Math.IntN.{pos-*ℤ-pos, negsuc-*ℤ-pos}
use Rattle.std.proofs.Math.Nat.{mul-div_cancel}
use Rattle.std.specs.Int.RustNames.{int_div}
use Rattle.jiff_core.specs.DateTime.{civil_nanos, civil_seconds}
use Rattle.jiff_core.specs.Timestamp.{IsTimestampNanos, nanos_of_seconds}
use Rattle.jiff_core.specs.declared.Offset.{Offset}
use Rattle.jiff_core.specs.declared.civil.datetime.DateTime.{DateTime}
use Rattle.jiff_core.proofs.DateTimeLemmas.{civil_nanos-civil_seconds}
use Rattle.jiff_core.proofs.SignedLemmas.{signed_arith}
use Rattle.jiff_tz.specs.Ambiguous.{compatible_offset}
use Rattle.jiff_tz.specs.Zone.{ambiguous_at}
use Rattle.jiff_tz.specs.PosixRule.{rule_nanos, ambiguous_by, ambiguous_at_by, in_window, in_span, saturating_add, saturating_sub, shift_between}
use Rattle.jiff.specs.Placed.{IsPosixZone}
use Rattle.jiff_tz.specs.PosixReader.{read_whole}
use Rattle.jiff_tz.specs.PosixText.{TzText, tz_view, dst_view, day_time_view}
use Rattle.jiff_tz.specs.declared.posix.DayTime.{DayTime}
use Rattle.jiff_tz.specs.declared.posix.Dst.{Dst}
use Rattle.jiff_tz.specs.declared.ambiguous.AmbiguousOffset.{AmbiguousOffset}
use Rattle.jiff_tz.specs.declared.ambiguous.AmbiguousOffset.TheVariants.{Unambiguous, Gap, Fold}
use Rattle.jiff_tz.specs.declared.timezone.TimeZone.{TimeZone}
use Rattle.jiff_tz.specs.declared.timezone.TimeZone.TheVariants.{UTC, Unknown, Fixed, Posix, Tzif}
use Rattle.rg_cond.specs.ClockViews.{rule_said}
use Rattle.rg_cond.specs.Clocks.{change_at, offset_by, offset_with, offset_before, is_held, held, instant_on}
use Rattle.rg_cond.specs.Dates.{shown_of}

-- ---- whole seconds in nanoseconds, and back

div_neg : (m : ℕ) → int_div (neg_ℤ (pos m)) (pos 1_000_000_000) ≡ neg_ℤ (pos (m / 1_000_000_000))
div_neg zero = refl
div_neg (suc m) = refl

pub seconds_back : (s : ℤ) → int_div (s *ℤ pos 1_000_000_000) (pos 1_000_000_000) ≡ s
seconds_back (pos n) = ap (λ z. int_div z (pos 1_000_000_000)) (pos-*ℤ-pos n 1_000_000_000) ∙ ap pos (mul-div_cancel n (lit< tt))
seconds_back (negsuc n) = ap (λ z. int_div z (pos 1_000_000_000)) (negsuc-*ℤ-pos n 1_000_000_000) ∙ div_neg (suc n * 1_000_000_000) ∙ ap (λ m. neg_ℤ (pos m)) (mul-div_cancel (suc n) (lit< tt))

pub fits : (n d : ℤ) → IsTimestampNanos n → n ≡ d *ℤ pos 1_000_000_000 → FitsSigned w64 d
fits n d r e = omega (arith, signed_arith)

-- a clock's nanoseconds where it shows whole seconds
whole_nanos : (dt : DateTime) → dt.time.subsec_nanosecond ≡ 0 → civil_nanos dt ≡ nanos_of_seconds (civil_seconds dt)
whole_nanos dt z =
    let whole : civil_nanos dt ≡ civil_seconds dt *ℤ pos 1_000_000_000 +ℤ pos 0 = civil_nanos-civil_seconds dt ∙ ap (λ n. civil_seconds dt *ℤ pos 1_000_000_000 +ℤ pos n) z in
    omega (arith, signed_arith)

-- ---- the instants that `jiff` holds

le_yes : (a b : ℤ) → a ≤ℤ b → int_le a b ≡ true
le_yes a b h = elim (int_le a b) as (λ v. int_le a b ≡ v → v ≡ true) [
  | true ↦ λ e. refl
  | false ↦ λ e. absurd (omega (arith, signed_arith))
] refl

pub held_some : (n d : ℤ) → IsTimestampNanos n → n ≡ d *ℤ pos 1_000_000_000 → held d ≡ Some (record { 0 = d })
held_some n d r e =
    let low : neg_ℤ (pos 377_705_023_201) ≤ℤ d = omega (arith, signed_arith) in
    let high : d ≤ℤ pos 253_402_207_200 = omega (arith, signed_arith) in
    ap (λ v. if v then Some (record { 0 = d }) else None) (and_from _ _ (le_yes _ d low) (le_yes d _ high))

pub no_answer : false ≡ true → ⊥
no_answer e = cc

within : (n d : ℤ) → n ≡ d *ℤ pos 1_000_000_000 → is_held d ≡ true → IsTimestampNanos n
within n d e h =
    let low : int_le (neg_ℤ (pos 377_705_023_201)) d ≡ true = (and_parts _ (int_le d (pos 253_402_207_200)) h).0 in
    let high : int_le d (pos 253_402_207_200) ≡ true = (and_parts (int_le (neg_ℤ (pos 377_705_023_201)) d) _ h).1 in
    (omega (arith, signed_arith), omega (arith, signed_arith))

pub held_none : (n d : ℤ) → (IsTimestampNanos n → ⊥) → n ≡ d *ℤ pos 1_000_000_000 → held d ≡ None
held_none n d r e =
    let m : Moment = record { 0 = d } in
    elim (is_held d) as (λ v. is_held d ≡ v → (if v then Some m else None) ≡ None) [
      | true ↦ λ h. absurd (r (within n d e h))
      | false ↦ λ h. refl
    ] refl

-- ---- the offset before a change

zero_off : (z : ℤ) → z -ℤ pos 0 ≡ z
zero_off z = omega (arith, signed_arith)

change_same : (year : ℤ) (d : DayTime) → change_at year (day_time_view d) ≡ rule_nanos year d (pos 0)
unfolding change_at rule_nanos
change_same year d = rw (zero_off d.time) refl

-- both tables, by the answers of their tests
ahead_same : (std dst : Offset) (a b c : Bool) →
    (if not a then std.seconds else (if b then std.seconds else dst.seconds))
    ≡ (compatible_offset (if not a then Unambiguous std else (if b then Gap std dst else (if c then Fold dst std else Unambiguous dst)))).seconds
ahead_same std dst false b c = refl
ahead_same std dst true true c = refl
ahead_same std dst true false true = refl
ahead_same std dst true false false = refl

behind_same : (std dst : Offset) (a b c : Bool) →
    (if a then dst.seconds else (if b then std.seconds else (if c then dst.seconds else std.seconds)))
    ≡ (compatible_offset (if a then Unambiguous dst else (if b then Fold std dst else (if c then Gap dst std else Unambiguous std)))).seconds
behind_same std dst true b c = refl
behind_same std dst false true c = refl
behind_same std dst false false true = refl
behind_same std dst false false false = refl

choice_same : (a b : Bool) (x y z : ℤ) (p q r : AmbiguousOffset) → x ≡ (compatible_offset p).seconds → y ≡ (compatible_offset q).seconds → z ≡ (compatible_offset r).seconds
    → (if a then x else (if b then y else z)) ≡ (compatible_offset (if a then p else (if b then q else r))).seconds
choice_same true b x y z p q r e f g = e
choice_same false true x y z p q r e f g = f
choice_same false false x y z p q r e f g = g

by_same : (std dst : Offset) (w : ℤ × ℤ) (at : ℤ) → offset_by std.seconds dst.seconds w at ≡ (compatible_offset (ambiguous_by std dst w at)).seconds
by_same std dst w at = choice_same (int_lt dst.seconds std.seconds) (int_lt std.seconds dst.seconds) _ _ _ _ _ _
    (behind_same std dst (in_window w at) (in_span (saturating_add w.0 (shift_between std dst)) w.0 at) (in_span w.1 (saturating_sub w.1 (shift_between std dst)) at))
    (ahead_same std dst (in_window w at) (in_span w.0 (saturating_add w.0 (shift_between std dst)) at) (in_span (saturating_sub w.1 (shift_between std dst)) w.1 at))
    refl

with_same : (std : Offset) (dst : Option Dst) (dt : DateTime) → dt.time.subsec_nanosecond ≡ 0
    → offset_with std.seconds (option_map dst_view dst) (shown_of dt) ≡ (compatible_offset (ambiguous_at_by std dst dt)).seconds
with_same std None dt z = refl
with_same std (Some d) dt z =
    let start = change_same dt.date.year d.rule.start in
    let finish = change_same dt.date.year d.rule.end in
    let at = whole_nanos dt z in
    (λ i. offset_by std.seconds d.offset.seconds (start i, finish i) (sym at i)) ∙ by_same std d.offset (rule_nanos dt.date.year d.rule.start (pos 0), rule_nanos dt.date.year d.rule.end (pos 0)) (civil_nanos dt)

-- the instant of a zone's rule is that of the offset which `jiff` gives
pub instant_same : (zone : TimeZone) (dt : DateTime) → IsTrue (is_some (rule_said zone)) → dt.time.subsec_nanosecond ≡ 0
    → instant_on (rule_said zone) (shown_of dt) ≡ held (civil_seconds dt -ℤ (compatible_offset (ambiguous_at zone dt)).seconds)
unfolding offset_before ambiguous_at
instant_same UTC dt h z = absurd (no_answer h)
instant_same Unknown dt h z = absurd (no_answer h)
instant_same (Fixed offset) dt h z = absurd (no_answer h)
instant_same (Posix rule) dt h z = ap (λ o. held (civil_seconds dt -ℤ o)) (with_same rule.std_offset rule.dst dt z)
instant_same (Tzif table) dt h z = absurd (no_answer h)

-- the nanoseconds of an instant, in seconds
nanos_same : (dt : DateTime) (o n : ℤ) → dt.time.subsec_nanosecond ≡ 0 → n ≡ civil_nanos dt -ℤ nanos_of_seconds o → n ≡ (civil_seconds dt -ℤ o) *ℤ pos 1_000_000_000
nanos_same dt o n z e = let whole = whole_nanos dt z in omega (arith, signed_arith)

-- how far `jiff` has the zone's clock ahead of UTC
abbrev pub ahead_of : TimeZone → DateTime → ℤ
ahead_of zone dt = (compatible_offset (ambiguous_at zone dt)).seconds

-- an instant that `jiff` holds, in whole seconds
pub placed : (zone : TimeZone) (dt : DateTime) (n t : ℤ) → IsTrue (is_some (rule_said zone)) → dt.time.subsec_nanosecond ≡ 0
    → IsTimestampNanos n → n ≡ civil_nanos dt -ℤ nanos_of_seconds (ahead_of zone dt) → t ≡ int_div n (pos 1_000_000_000)
    → Some (record { 0 = to_z w64 (of_z w64 t) }) ≡ instant_on (rule_said zone) (shown_of dt)
placed zone dt n t h z r e second =
    let d : ℤ = civil_seconds dt -ℤ ahead_of zone dt in
    let nanos : n ≡ d *ℤ pos 1_000_000_000 = nanos_same dt (ahead_of zone dt) n z e in
    let seconds : t ≡ d = second ∙ ap (λ m. int_div m (pos 1_000_000_000)) nanos ∙ seconds_back d in
    let whole : to_z w64 (of_z w64 t) ≡ d = ap (λ m. to_z w64 (of_z w64 m)) seconds ∙ to_z-of_z w64 d (fits n d r nanos) in
    let moment : ℤ → Option Moment = λ m. Some (record { 0 = m }) in
    ap moment whole ∙ sym (held_some n d r nanos) ∙ sym (instant_same zone dt h z)

-- and one that it doesn't hold
pub unplaced : (zone : TimeZone) (dt : DateTime) → IsTrue (is_some (rule_said zone)) → dt.time.subsec_nanosecond ≡ 0
    → (IsTimestampNanos (civil_nanos dt -ℤ nanos_of_seconds (ahead_of zone dt)) → ⊥) → None ≡ instant_on (rule_said zone) (shown_of dt)
unplaced zone dt h z r =
    let n : ℤ = civil_nanos dt -ℤ nanos_of_seconds (ahead_of zone dt) in
    let d : ℤ = civil_seconds dt -ℤ ahead_of zone dt in
    sym (held_none n d r (nanos_same dt (ahead_of zone dt) n z refl)) ∙ sym (instant_same zone dt h z)

-- what a rule reads as is what `jiff`'s zone of it says
pub agrees : (rule : List ℕ) (zone : TimeZone) (dt : DateTime) → IsPosixZone rule zone → dt.time.subsec_nanosecond ≡ 0
    → (said : TzText) × (read_whole rule ≡ Some said) × (instant_on (Some said) (shown_of dt) ≡ held (civil_seconds dt -ℤ ahead_of zone dt))
agrees rule (Posix r) dt p z = (tz_view r, p, instant_same (Posix r) dt refl z)
agrees rule UTC dt p z = absurd p
agrees rule Unknown dt p z = absurd p
agrees rule (Fixed offset) dt p z = absurd p
agrees rule (Tzif table) dt p z = absurd p
