use Rattle.std.proofs.Common.{rules, ◌≡◌, ◌∷◌, true, [], None, refl, ap, sym, ◌∙◌, subst}
use Rattle.rg_cmd.specs.declared.ask.AdminCommand.TheVariants.{PutUser}
use Rattle.rg_cmd.specs.declared.rule.Rule.TheVariants.{U1}
use Rattle.rg_cmd.specs.declared.state.State.{State}
use Rattle.rg_validate.specs.Failing.{first_failing}
use Rattle.rg_validate.specs.Rules.{command_rules}
use Rattle.rg_validate.specs.Users.{user_fits}
use Rattle.rg_admin.specs.Puts.{IsStarting}
use Rattle.rg_admin.proofs.PutRows.{put_starts, same_rules, starting_tight}
use Rattle.rg_admin.proofs.putting.put_user.Goals as goal

pub put_placed-requires-clause-tight : goal.put_placed-requires-clause-tight
put_placed-requires-clause-tight c = (starting_tight c.args.putting.now.state c.requires.starting).users

pub put_placed-requires-clause-placed : goal.put_placed-requires-clause-placed
put_placed-requires-clause-placed c = c.requires.users

pub returns-in-Ok-clause-putting : goal.returns-in-Ok-clause-putting
returns-in-Ok-clause-putting c =
    let s : State = c.args.putting.now.state in
    let passed : first_failing (command_rules s (PutUser c.args.user)) ≡ None = let fits : user_fits c.args.user ≡ true = search rules in ap (λ b. first_failing ((U1, b) ∷ [])) fits in record {
      starting = subst IsStarting (λ i. record s { users = sym c.in-Ok.ensures.ok i }) (put_starts c.zones_apart_by_pairs.ensures s c.requires.starting (PutUser c.args.user) refl passed);
      defs = c.requires.defs;
      services = c.requires.services;
      users = c.in-Ok.ensures.placed;
    }
