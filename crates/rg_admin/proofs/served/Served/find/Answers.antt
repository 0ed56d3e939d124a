use Rattle.std.proofs.Common.{◌≡◌, ◌∙◌, None, ap, rules}
use Rattle.std.specs.Option.{option_map}
use Rattle.std.specs.Str.{chars}
use Rattle.rg_admin.specs.Held.{logs_of}
use Rattle.rg_admin.proofs.Serving.{no_def, no_log, no_row, view_found}
use Rattle.rg_admin.proofs.served.Served.find.Goals as goal

pub returns-in_err-log-clause-facts : goal.returns-in_err-log-clause-facts
returns-in_err-log-clause-facts c =
    let none : c.from_residual.result ≡ None = search rules in
    ap (option_map (λ s. s.facts)) none ∙ no_log c.args.state.now (logs_of c.args.logs.now) (chars c.args.name.now) c.in_err-log.ensures

pub returns-in_err-row-clause-facts : goal.returns-in_err-row-clause-facts
returns-in_err-row-clause-facts c =
    let none : c.from_residual-in_err-row.result ≡ None = search rules in
    ap (option_map (λ s. s.facts)) none
    ∙ no_row c.args.state.now (logs_of c.args.logs.now) (chars c.args.name.now) c.in_ok-log.log.now.log c.in_ok-log.ensures c.in_err-row.ensures

pub returns-in_err-def-clause-facts : goal.returns-in_err-def-clause-facts
returns-in_err-def-clause-facts c =
    let none : c.from_residual-in_err-def.result ≡ None = search rules in
    ap (option_map (λ s. s.facts)) none
    ∙ no_def c.args.state.now (logs_of c.args.logs.now) (chars c.args.name.now) c.in_ok-log.log.now.log c.in_ok-row.row.now c.in_ok-log.ensures c.in_ok-row.ensures c.in_err-def.ensures

pub returns-clause-facts : goal.returns-clause-facts
returns-clause-facts c =
    view_found c.args.state.now (logs_of c.args.logs.now) (chars c.args.name.now) c.in_ok-log.log.now.log c.in_ok-row.row.now c.in_ok-def.def.now
    c.in_ok-log.ensures c.in_ok-row.ensures c.in_ok-def.ensures
