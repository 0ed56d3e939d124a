use Rattle.std.proofs.Common.{◌≡◌}
use Rattle.rg_admin_laws.specs.Logs.{Administration}
use Rattle.rg_admin.specs.Stepped.{administration_in}
use Rattle.rg_admin.proofs.Stepping.{held_made, held_same, made_by, unmade_by}
use Rattle.rg_admin.proofs.admin.accept.Goals as goal

pub plan-requires : goal.plan-requires
plan-requires g c = c.requires.kept.valid

pub make-requires-clause-tight : goal.make-requires-clause-tight
make-requires-clause-tight g c = c.kept_is_tight.ensures c.args.held.now.state c.requires.kept c.requires.packed

pub make-requires-clause-room : goal.make-requires-clause-room
make-requires-clause-room g c = c.in-Ok.ensures.room

pub returns-in-Ok-make-clause-ok : goal.returns-in-Ok-make-clause-ok
returns-in-Ok-make-clause-ok g c = made_by _ _ _ _ c.in-Ok.due _ _ _ c.command_of.ensures c.in-Ok-make.ensures.state c.in-Ok-make.ensures.logs c.in-Ok.ensures.due

pub returns-in-Ok-make-clause-holds : goal.returns-in-Ok-make-clause-holds
returns-in-Ok-make-clause-holds g c =
    let before = administration_in c.args.held.now in
    held_made (λ a. g.P.Recorder.holds c.record.new.self a) before (administration_in c.make.new.held) c.args.ask.command
    (made_by _ _ _ _ c.in-Ok.due _ _ _ c.command_of.ensures c.in-Ok-make.ensures.state c.in-Ok-make.ensures.logs c.in-Ok.ensures.due)
    (c.in-Ok-record.ensures.kept before c.requires.holds c.requires.passes)

pub returns-in-Err-make-clause-err : goal.returns-in-Err-make-clause-err
returns-in-Err-make-clause-err g c = unmade_by _ _ _ _ _ c.in-Err-make.ensures.err_state c.in-Err-make.ensures.err_logs c.plan.ensures.logs

pub returns-in-Err-make-clause-holds : goal.returns-in-Err-make-clause-holds
returns-in-Err-make-clause-holds g c =
    let before = administration_in c.args.held.now in
    held_same (λ a. g.P.Recorder.holds c.stop.new.self a) before (administration_in c.make.new.held)
    (unmade_by _ _ _ _ _ c.in-Err-make.ensures.err_state c.in-Err-make.ensures.err_logs c.plan.ensures.logs)
    (c.stop.ensures before (c.in-Ok-record.ensures.undone before c.requires.holds c.requires.passes))

pub returns-in-Err-record-clause-err : goal.returns-in-Err-record-clause-err
returns-in-Err-record-clause-err g c = λ i. record { state = c.args.held.now.state; logs = c.plan.ensures.logs i }

pub returns-in-Err-record-clause-holds : goal.returns-in-Err-record-clause-holds
returns-in-Err-record-clause-holds g c =
    let before = administration_in c.args.held.now in
    let same : record { state = c.args.held.now.state; logs = _ } ≡ before = λ i. record { state = c.args.held.now.state; logs = c.plan.ensures.logs i } in
    held_same (λ a. g.P.Recorder.holds c.record.new.self a) before _ same (c.in-Err-record.ensures.unkept before c.requires.holds c.requires.passes)

pub returns-in-Err-clause-err : goal.returns-in-Err-clause-err
returns-in-Err-clause-err g c = λ i. record { state = c.args.held.now.state; logs = c.plan.ensures.logs i }

pub returns-in-Err-clause-holds : goal.returns-in-Err-clause-holds
returns-in-Err-clause-holds g c =
    let before = administration_in c.args.held.now in
    let same : record { state = c.args.held.now.state; logs = _ } ≡ before = λ i. record { state = c.args.held.now.state; logs = c.plan.ensures.logs i } in
    held_same (λ a. g.P.Recorder.holds c.args.recorder.now a) before _ same c.requires.holds
