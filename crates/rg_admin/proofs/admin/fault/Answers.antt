use Rattle.std.proofs.Common.{rules, ◌≡◌, None}
use Rattle.rg_validate.specs.Rules.{first_fault}
use Rattle.rg_admin_laws.proofs.Readying.{form_fits, ready}
use Rattle.rg_admin.proofs.admin.fault.Goals as goal

pub authority_fault-requires-clause-ready : goal.authority_fault-requires-clause-ready
authority_fault-requires-clause-ready c = ready c.args.state.now c.requires.kept.valid

pub authority_fault-requires-clause-fits : goal.authority_fault-requires-clause-fits
authority_fault-requires-clause-fits c =
    let none : first_fault c.args.state.now c.args.ask.now ≡ None = search rules in
    form_fits c.args.state.now c.requires.kept.valid c.args.ask.now none
