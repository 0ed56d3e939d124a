use Rattle.std.proofs.Common.{◌≡◌, sym, ◌∙◌, length, arith}
use Rattle.std.proofs.lemmas.Bool.Decides.{nat_tests}
use Rattle.std.specs.Str.{chars}
use Rattle.rg_pattern.specs.Tests.{stands}
use Rattle.rg_pattern.proofs.Suffixes.{some_suffix_whole}
use Rattle.rg_pattern.proofs.Walks.{empty_fits}
use Rattle.rg_pattern.proofs.matching.matches_suffix.Goals as goal

pub returns-in-Whole-clause-answer : goal.returns-in-Whole-clause-answer
returns-in-Whole-clause-answer c = sym (c.retry.invariant.same ∙ some_suffix_whole (stands c.args.fold (chars c.args.user.now) c.retry.pattern.now) (chars c.retry.text.now) c.in-Whole.ensures.answer)

pub returns-then-is_empty-clause-answer : goal.returns-then-is_empty-clause-answer
returns-then-is_empty-clause-answer c =
    let none : length c.retry.pattern.now ≡ 0 = grind (arith, nat_tests) in
    sym (c.retry.invariant.same ∙ empty_fits c.args.fold (chars c.args.user.now) c.retry.pattern.now (chars c.retry.text.now) none)
