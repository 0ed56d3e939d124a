use Rattle.std.proofs.Common.{◌≡◌, List, Option, ap, refl, subst, sym}
use Rattle.rg_policy.specs.declared.policy.Policy.{Policy}
use Rattle.rg_same_resources.specs.Counts.{IsCounted}
use Rattle.rg_same_resources.specs.declared.prints.Prints.{Prints}
use Rattle.rg_same_resources.proofs.Counting.{counted_same}
use Rattle.rg_admin_laws.specs.Logs.{Administration}
use Rattle.rg_admin.specs.Counting.{IsCountedIn, IsCountedOut}
use Rattle.rg_admin.specs.Stepped.{administration_in}
use Rattle.rg_admin.specs.declared.counting.Shift.{Shift}
use Rattle.rg_admin.proofs.Counted.{counted_after, counted_again}
use Rattle.rg_admin.proofs.admin.answer_counted.Goals as goal

pub shift_of-shift-requires : goal.shift_of-shift-requires
shift_of-shift-requires g c = c.requires.kept.valid

pub answer-requires-clause-kept : goal.answer-requires-clause-kept
answer-requires-clause-kept g c = c.requires.kept

pub answer-requires-clause-packed : goal.answer-requires-clause-packed
answer-requires-clause-packed g c = c.requires.packed

pub answer-requires-clause-passes : goal.answer-requires-clause-passes
answer-requires-clause-passes g c = c.requires.passes

pub answer-requires-clause-holds : goal.answer-requires-clause-holds
answer-requires-clause-holds g c = c.requires.holds

pub returns-in-Ok-answer-clause-holds : goal.returns-in-Ok-answer-clause-holds
returns-in-Ok-answer-clause-holds g c = c.answer.ensures.holds

pub returns-in-Err-answer-clause-holds : goal.returns-in-Err-answer-clause-holds
returns-in-Err-answer-clause-holds g c = c.answer.ensures.holds

pub returns-in-Err-clause-holds : goal.returns-in-Err-clause-holds
returns-in-Err-clause-holds g c = c.requires.holds

pub returns-in-Ok-answer-clause-counted : goal.returns-in-Ok-answer-clause-counted
returns-in-Ok-answer-clause-counted g c =
    let before = administration_in c.args.held.now in
    counted_after before (administration_in c.answer.new.held) c.args.ask c.in-Ok-answer.reply c.args.counts.now c.count_in.new.counts c.count_out.new.counts c.requires.kept c.requires.counted c.in-Ok-answer.ensures.ok
    (subst (λ (shift : Shift). IsCountedIn shift.brings c.args.counts.now c.count_in.new.counts) c.shift_of-shift.ensures c.in-Ok.ensures.ok)
    (subst (λ (shift : Shift). IsCountedOut shift.takes c.count_in.new.counts c.count_out.new.counts) c.shift_of-shift.ensures c.count_out.ensures)

pub returns-in-Err-answer-clause-counted : goal.returns-in-Err-answer-clause-counted
returns-in-Err-answer-clause-counted g c =
    subst (λ (a : Administration). IsCounted c.count_out-in-Err-answer.new.counts a.state.policies.items) (sym c.in-Err-answer.ensures.err)
    (counted_again c.args.held.now.state.policies.items c.shift_of-shift.result.brings c.args.counts.now c.count_in.new.counts c.count_out-in-Err-answer.new.counts c.requires.counted c.in-Ok.ensures.ok c.count_out-in-Err-answer.ensures)

pub returns-in-Err-clause-counted : goal.returns-in-Err-clause-counted
returns-in-Err-clause-counted g c = counted_same c.args.held.now.state.policies.items c.args.counts.now c.count_in.new.counts c.in-Err.ensures.err c.requires.counted

pub returns-in-Ok-answer-clause-ok : goal.returns-in-Ok-answer-clause-ok
returns-in-Ok-answer-clause-ok g c = c.in-Ok-answer.ensures.ok

pub returns-in-Err-answer-clause-err : goal.returns-in-Err-answer-clause-err
returns-in-Err-answer-clause-err g c = c.in-Err-answer.ensures.err

pub returns-in-Err-clause-err : goal.returns-in-Err-clause-err
returns-in-Err-clause-err g c = refl
