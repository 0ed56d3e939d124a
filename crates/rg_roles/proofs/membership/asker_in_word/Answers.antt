use Rattle.std.proofs.Common.{◌+◌, ◌&&◌, nat_eq, Bool, ℕ, false, ap, sym, ◌∙◌}
use Rattle.std.specs.Int.{bit_at}
use Rattle.std.specs.Str.{chars}
use Rattle.std.proofs.lemmas.Bool.{and_from, eq-eqb, eqb-true, false_from_ne_true}
use Rattle.std.proofs.lemmas.Nat.Bits.{shr_and_one}
use Rattle.rg_roles.specs.Members.{names_asker, passes_at}
use Rattle.rg_roles.proofs.Sets.{and_false, any_below_from, none_below_more, none_below_zero}
use Rattle.rg_roles.proofs.membership.asker_in_word.Goals as goal
use Rattle.rg_roles.proofs.membership.asker_in_word.Goals.{else-word-bit-eq1-via-then-word-bit-eq1+else-asker_at, else-word-bit-eq1-via-else-word-bit-eq1}

pub loop-bit-init : goal.loop-bit-init
loop-bit-init c = none_below_zero _

pub returns-then-asker_at : goal.returns-then-asker_at
returns-then-asker_at c =
    let bit = c.loop-bit.bit in
    let word = c.args.word in
    sym (any_below_from _ 64 bit c.loop-bit-test.true
    (and_from (nat_eq (bit_at word bit) 1) (passes_at (names_asker (chars c.args.user.now) c.args.groups.now) c.args.rows.now (c.args.begin + bit))
    (eq-eqb (bit_at word bit) 1 (sym (shr_and_one word bit) ∙ c.if-word-bit-eq1.true))
    (sym c.asker_at.ensures ∙ c.if-asker_at.true)))

pub loop-bit-preserved : goal.loop-bit-preserved
loop-bit-preserved c =
    let bit = c.loop-bit.bit in
    let word = c.args.word in
    let asked : ℕ → Bool = λ b. passes_at (names_asker (chars c.args.user.now) c.args.groups.now) c.args.rows.now (c.args.begin + b) in
    none_below_more (λ b. nat_eq (bit_at word b) 1 && asked b) bit c.loop-bit.invariant (elim c.else-word-bit-eq1.branch [
      | else-word-bit-eq1-via-then-word-bit-eq1+else-asker_at w ↦ and_false (nat_eq (bit_at word bit) 1) (asked bit) (sym w.asker_at.ensures ∙ w.if-asker_at.false)
      | else-word-bit-eq1-via-else-word-bit-eq1 w ↦
          ap (λ a. a && asked bit) (false_from_ne_true (nat_eq (bit_at word bit) 1) (λ h. w.if-word-bit-eq1.false (shr_and_one word bit ∙ eqb-true (bit_at word bit) 1 h)))
    ])
