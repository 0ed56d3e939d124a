use Rattle.std.proofs.Common.{rules, ◌≡◌, ◌∷◌, true, [], None, refl, ap, sym, ◌∙◌, subst}
use Rattle.rg_cmd.specs.declared.ask.AdminCommand.TheVariants.{PutDef}
use Rattle.rg_cmd.specs.declared.state.State.{State}
use Rattle.rg_validate.specs.Failing.{first_failing}
use Rattle.rg_validate.specs.Rules.{command_rules}
use Rattle.rg_admin.specs.Puts.{IsStarting}
use Rattle.rg_admin.proofs.PutRows.{put_starts, same_rules, starting_tight}
use Rattle.rg_admin.proofs.putting.put_def.Goals as goal

pub put_placed-requires-clause-tight : goal.put_placed-requires-clause-tight
put_placed-requires-clause-tight c = (starting_tight c.args.putting.now.state c.requires.starting).defs

pub put_placed-requires-clause-placed : goal.put_placed-requires-clause-placed
put_placed-requires-clause-placed c = c.requires.defs

pub returns-in-Ok-clause-passed : goal.returns-in-Ok-clause-passed
returns-in-Ok-clause-passed c = sym c.in-Ok-None.ensures ∙ c.in-Ok-None.field-0-is

pub returns-in-Ok-clause-putting : goal.returns-in-Ok-clause-putting
returns-in-Ok-clause-putting c =
    let s : State = c.args.putting.now.state in
    let passed : first_failing (command_rules s (PutDef c.args.def)) ≡ None = same_rules s c.requires.starting (PutDef c.args.def) ∙ sym c.in-Ok-None.ensures ∙ c.in-Ok-None.field-0-is in record {
      starting = subst IsStarting (λ i. record s { defs = sym c.in-Ok.ensures.ok i }) (put_starts c.zones_apart_by_pairs.ensures s c.requires.starting (PutDef c.args.def) refl passed);
      defs = c.in-Ok.ensures.placed;
      services = c.requires.services;
      users = c.requires.users;
    }

pub returns-in-Ok-Some-clause-err : goal.returns-in-Ok-Some-clause-err
returns-in-Ok-Some-clause-err c = sym c.in-Ok-Some.ensures ∙ c.in-Ok-Some.field-0-is
