use Rattle.std.proofs.Common.{◌≡◌, Option, Some, None, option_map, refl, ap, ◌∙◌}
use Rattle.std.specs.Option.{is_some}
use Rattle.rg_cmd.specs.Lookups.{has_id}
use Rattle.rg_validate.proofs.ListTests.{found-some}
use Rattle.rg_validate.proofs.existence.policy_exists.Goals as goal

some_seen : {X Y : Type 0} (f : X → Y) (o : Option X) → is_some o ≡ is_some (option_map f o)
some_seen f None = refl
some_seen f (Some x) = refl

pub returns : goal.returns
returns c = c.is_some.ensures ∙ some_seen (λ p. p.now) c.policy_at.result ∙ ap is_some c.policy_at.ensures ∙ found-some (has_id c.args.id.0) c.args.state.now.policies.items
