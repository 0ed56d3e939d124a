use Rattle.std.proofs.Common.{◌≡◌, None, sym, ap, ◌∙◌, subst}
use Rattle.std.specs.Option.{option_or}
use Rattle.rg_cmd.specs.declared.state.State.{State}
use Rattle.rg_validate.specs.Failing.{first_failing}
use Rattle.rg_admin_laws.specs.Logs.{Administration}
use Rattle.rg_admin_laws.specs.Starts.{IsStart, new_logs}
use Rattle.rg_admin.specs.Held.{administration_of}
use Rattle.rg_admin.specs.Reached.{IsPacked}
use Rattle.rg_admin.specs.Starting.{bare_state, last_rules, put_fault, puts, start_fault, started, started_state}
use Rattle.rg_admin.proofs.PutRows.{cause_first, is_packed, is_start}
use Rattle.rg_admin.proofs.start.start_parts.Goals as goal

pub returns-in-Err : goal.returns-in-Err
unfolding start_fault
returns-in-Err c = cause_first c.in-Err.fault (put_fault (bare_state c.args.config) (puts c.args.config)) (first_failing (last_rules (started_state c.args.config))) c.in-Err.ensures

pub returns-in-Ok-Some : goal.returns-in-Ok-Some
unfolding start_fault
returns-in-Ok-Some c =
    let whole = c.in-Ok.ensures in
    ap (λ o. option_or o (first_failing (last_rules (started_state c.args.config)))) whole.fault
    ∙ (ap (λ (s : State). first_failing (last_rules s)) (sym whole.now) ∙ (sym c.in-Ok-Some.ensures ∙ c.in-Ok-Some.field-0-is))

pub returns-in-Ok-with_logs : goal.returns-in-Ok-with_logs
unfolding start_fault started
returns-in-Ok-with_logs c =
    let s : State = c.in-Ok.state in
    let whole = c.in-Ok.ensures in
    let given = c.in-Ok-with_logs.ensures in
    let none : first_failing (last_rules s) ≡ None = sym c.in-Ok-None.ensures ∙ c.in-Ok-None.field-0-is in
    let passed : first_failing (last_rules (record whole.before { time_zones = s.time_zones })) ≡ None = subst (λ (t : State). first_failing (last_rules t) ≡ None) whole.zoned none in
    let parts = c.in-Ok-with_logs.parts in
    let held : Administration = administration_of parts.0 parts.1.items in
    let place : held ≡ record { state = record whole.before { time_zones = s.time_zones }; logs = new_logs whole.before.services.items } =
    (λ i. record { state = (given.state ∙ whole.zoned) i; logs = (given.logs ∙ ap (λ (t : State). new_logs t.services.items) whole.zoned) i }) in (
      ap (λ o. option_or o (first_failing (last_rules (started_state c.args.config)))) whole.fault ∙ (ap (λ (t : State). first_failing (last_rules t)) (sym whole.now) ∙ none),
      (λ i. record { state = (given.state ∙ whole.now) i; logs = (given.logs ∙ ap (λ (t : State). new_logs t.services.items) whole.now) i }),
      subst IsStart (sym place) (is_start whole.before whole.starting s.time_zones passed),
      subst IsPacked (sym (given.state ∙ whole.zoned)) (is_packed whole.before whole.starting s.time_zones passed),
    )
