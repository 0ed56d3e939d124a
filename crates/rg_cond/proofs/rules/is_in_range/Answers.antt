use Rattle.std.proofs.Common.{rules, ap, sym, ◌∙◌}
use Rattle.std.specs.Str.{bytes_eq, chars}
use Rattle.std.proofs.lemmas.Str.{chars-nil}
use Rattle.rg_cond.proofs.Ranges.{step_end, step_star, step_same, step_other, step_none}
use Rattle.rg_cond.proofs.rules.is_in_range.Goals as goal

pub returns-in_default : goal.returns-in_default
returns-in_default c =
    c.same_text.ensures ∙ ap (bytes_eq (chars c.characters.address.now)) chars-nil
    ∙ step_end (chars c.characters.value.now) (chars c.characters.address.now) c.in_default.ensures ∙ c.characters.invariant.same

pub returns-then-is_lone_star : goal.returns-then-is_lone_star
returns-then-is_lone_star c =
    sym (step_star (chars c.characters.value.now) (chars c.characters.address.now) (chars c.in-Some.rest.now) c.in-Some.mark c.in-Some.ensures (sym c.is_lone_star.ensures ∙ c.if-is_lone_star.true))
    ∙ c.characters.invariant.same

pub characters-preserved : goal.characters-preserved
characters-preserved c = record {
  texts = (search rules, search rules);
  same = step_same (chars c.characters.value.now) (chars c.characters.address.now) (chars c.in-Some.rest.now) (chars c.in-Some-split_char.others.now) c.in-Some.mark c.in-Some-split_char.first
      c.in-Some.ensures c.in-Some-split_char.ensures c.if-first-mark.true (sym c.is_lone_star.ensures ∙ c.if-is_lone_star.false)
      ∙ c.characters.invariant.same;
}

pub returns-in_default-split_char : goal.returns-in_default-split_char
returns-in_default-split_char c =
    step_other (chars c.characters.value.now) (chars c.characters.address.now) (chars c.in-Some.rest.now) (chars c.in-Some-split_char.others.now) c.in-Some.mark c.in-Some-split_char.first
    c.in-Some.ensures c.in-Some-split_char.ensures c.if-first-mark.false (sym c.is_lone_star.ensures ∙ c.if-is_lone_star.false)
    ∙ c.characters.invariant.same

pub returns-in_default-split_char-2 : goal.returns-in_default-split_char-2
returns-in_default-split_char-2 c =
    step_none (chars c.characters.value.now) (chars c.characters.address.now) (chars c.in-Some.rest.now) c.in-Some.mark
    c.in-Some.ensures (rw c.in_default-split_char.is at c.split_char-in-characters.ensures) (sym c.is_lone_star.ensures ∙ c.if-is_lone_star.false)
    ∙ c.characters.invariant.same
