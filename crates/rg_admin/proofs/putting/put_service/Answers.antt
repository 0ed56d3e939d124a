use Rattle.std.proofs.Common.{rules, ◌≡◌, ◌∷◌, true, [], None, refl, ap, sym, ◌∙◌, subst}
use Rattle.rg_cmd.specs.declared.ask.AdminCommand.TheVariants.{CreateService}
use Rattle.rg_cmd.specs.declared.state.State.{State}
use Rattle.rg_validate.specs.Failing.{first_failing}
use Rattle.rg_validate.specs.Rules.{command_rules}
use Rattle.rg_admin.specs.Puts.{IsStarting}
use Rattle.rg_admin.proofs.PutRows.{name_is_new, put_starts}
use Rattle.rg_admin.proofs.putting.put_service.Goals as goal

pub add_placed-requires-clause-spare : goal.add_placed-requires-clause-spare
add_placed-requires-clause-spare c = c.requires.starting.services

pub add_placed-requires-clause-new : goal.add_placed-requires-clause-new
add_placed-requires-clause-new c = name_is_new c.args.putting.now.state c.args.row (sym c.service_fault.ensures ∙ c.in-None.is)

pub add_placed-requires-clause-placed : goal.add_placed-requires-clause-placed
add_placed-requires-clause-placed c = c.requires.services

pub returns-in-Ok-clause-passed : goal.returns-in-Ok-clause-passed
returns-in-Ok-clause-passed c = sym c.service_fault.ensures ∙ c.in-None.is

pub returns-in-Ok-clause-putting : goal.returns-in-Ok-clause-putting
returns-in-Ok-clause-putting c =
    let s : State = c.args.putting.now.state in
    let passed : first_failing (command_rules s (CreateService c.args.row)) ≡ None = sym c.service_fault.ensures ∙ c.in-None.is in record {
      starting = subst IsStarting (λ i. record s { services = sym c.in-Ok.ensures.ok i }) (put_starts c.zones_apart_by_pairs.ensures s c.requires.starting (CreateService c.args.row) refl passed);
      defs = c.requires.defs;
      services = c.in-Ok.ensures.placed;
      users = c.requires.users;
    }

pub returns-in-Some-clause-err : goal.returns-in-Some-clause-err
returns-in-Some-clause-err c = sym c.service_fault.ensures ∙ c.in-Some.is
