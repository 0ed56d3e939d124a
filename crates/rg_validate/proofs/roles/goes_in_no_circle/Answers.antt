use Rattle.std.proofs.Common.{rules, ◌≡◌, ap, ◌∙◌}
use Rattle.std.specs.Option.{is_none}
use Rattle.rg_roles.specs.Faults.{fault_of}
use Rattle.rg_validate.proofs.Circles.{circle_is}
use Rattle.rg_validate.proofs.roles.goes_in_no_circle.Goals as goal

pub returns : goal.returns
returns c =
    let none : c.is_none.result ≡ is_none (fault_of c.args.rows.now) = search rules in
    none ∙ ap (λ rows. is_none (fault_of rows)) c.requires.rows
    ∙ circle_is c.leads_is_decided.ensures c.sound_in_lists.ensures c.row_may_be_put.ensures c.args.state.now c.args.role.now c.requires.valid.roles c.requires.exist
