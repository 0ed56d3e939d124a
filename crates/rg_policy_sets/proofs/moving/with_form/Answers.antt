use Rattle.rg_policy_sets.proofs.Refiled.{free_new}
use Rattle.rg_policy_sets.proofs.moving.with_form.Goals as goal

pub apply-requires-clause-free : goal.apply-requires-clause-free
apply-requires-clause-free g c = free_new c.args.index.now.forms c.args.new.now c.requires.free
