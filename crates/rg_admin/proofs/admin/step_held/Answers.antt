use Rattle.std.proofs.Common.{◌≡◌, refl, sym, ◌∙◌, subst}
use Rattle.rg_same_resources.specs.Counts.{IsCounted}
use Rattle.rg_cmd.specs.declared.state.State.{State}
use Rattle.rg_admin_laws.specs.Steps.{refused}
use Rattle.rg_admin.specs.Stepped.{administration_in}
use Rattle.rg_admin.proofs.Stepping.{held_same, refused_step, stepped_on}
use Rattle.rg_admin.proofs.admin.step_held.Goals as goal

pub fault-requires-clause-kept : goal.fault-requires-clause-kept
fault-requires-clause-kept g c = c.requires.kept

pub fault-requires-clause-counted : goal.fault-requires-clause-counted
fault-requires-clause-counted g c = c.requires.counted

pub answer_counted-requires-clause-kept : goal.answer_counted-requires-clause-kept
answer_counted-requires-clause-kept g c = c.requires.kept

pub answer_counted-requires-clause-packed : goal.answer_counted-requires-clause-packed
answer_counted-requires-clause-packed g c = c.requires.packed

pub answer_counted-requires-clause-counted : goal.answer_counted-requires-clause-counted
answer_counted-requires-clause-counted g c = c.requires.counted

pub answer_counted-requires-clause-passes : goal.answer_counted-requires-clause-passes
answer_counted-requires-clause-passes g c = sym (sym c.in-Ok-None.field-0-is ∙ c.in-Ok-None.ensures)

pub answer_counted-requires-clause-holds : goal.answer_counted-requires-clause-holds
answer_counted-requires-clause-holds g c = c.requires.holds

pub returns-in-Ok-None-clause-holds : goal.returns-in-Ok-None-clause-holds
returns-in-Ok-None-clause-holds g c = c.answer_counted.ensures.holds

pub returns-in-Ok-Some-clause-holds : goal.returns-in-Ok-Some-clause-holds
returns-in-Ok-Some-clause-holds g c =
    let before = administration_in c.args.held.now in
    let same : record { state = c.count_entry.new.state; logs = before.logs } ≡ refused before = λ i. record { state = c.count_entry.ensures i; logs = before.logs } in
    held_same (λ a. g.P.Recorder.holds c.args.recorder.now a) (refused before) _ same (g.met.P.Recorder.refusals_count_for_nothing c.args.recorder.now before c.requires.holds)

pub returns-in-Err-clause-holds : goal.returns-in-Err-clause-holds
returns-in-Err-clause-holds g c = c.requires.holds

pub returns-in-Ok-None-clause-ok : goal.returns-in-Ok-None-clause-ok
returns-in-Ok-None-clause-ok g c = stepped_on c.answer_counted.result _ _ c.args.ask (sym c.in-Ok-None.field-0-is ∙ c.in-Ok-None.ensures) c.answer_counted.ensures.ok

pub returns-in-Ok-None-clause-err : goal.returns-in-Ok-None-clause-err
returns-in-Ok-None-clause-err g c = c.answer_counted.ensures.err

pub returns-in-Ok-Some-clause-ok : goal.returns-in-Ok-Some-clause-ok
returns-in-Ok-Some-clause-ok g c = refused_step _ _ _ c.args.ask c.in-Ok-Some.rule (sym c.in-Ok-Some.field-0-is ∙ c.in-Ok-Some.ensures) c.count_entry.ensures

pub returns-in-Err-clause-err : goal.returns-in-Err-clause-err
returns-in-Err-clause-err g c = refl

pub returns-in-Ok-None-clause-counted : goal.returns-in-Ok-None-clause-counted
returns-in-Ok-None-clause-counted g c = c.answer_counted.ensures.counted

pub returns-in-Ok-Some-clause-counted : goal.returns-in-Ok-Some-clause-counted
returns-in-Ok-Some-clause-counted g c = subst (λ (s : State). IsCounted c.args.counts.now s.policies.items) (sym c.count_entry.ensures) c.requires.counted

pub returns-in-Err-clause-counted : goal.returns-in-Err-clause-counted
returns-in-Err-clause-counted g c = c.requires.counted
