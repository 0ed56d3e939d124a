use Rattle.std.proofs.Common.{◌≡◌, ◌≤◌, ◌⊎◌, IfOk, Some, refl, subst, true}
use Rattle.rg_turn.specs.Values.{TurnValue}
use Rattle.rg_admin_laws.specs.Logs.{Administration}
use Rattle.rg_serve.proofs.Opening.{first_following}
use Rattle.rg_serve.proofs.serving.run_named.Goals as goal

pub new-requires-2 : goal.new-requires-2
new-requires-2 g c =
    let names = g.J.Naming in
    first_following c.args.service.turn names.turn names.opening c.args.service.refresher.publisher names.before c.args.service.seat names.published c.args.service.refresher.service c.args.service.seats.items c.args.service.passes.items
    (subst (λ (t : TurnValue Administration). t.turn.start ≡ Some t.start) c.turn.view_is refl) c.requires.names.0 c.requires.names.1 c.requires.before.0 c.requires.before.1 c.requires.held

pub returns-clause-all : goal.returns-clause-all
returns-clause-all g c =
    subst (λ r. IfOk r (λ n. (n ≤ c.args.around.most) × ((n ≡ c.args.around.most) ⊎ (g.N.Listener.ended c.attend-accepted.new.net ≡ true)))) c.in_ok-links.was c.attend-accepted.ensures.all
