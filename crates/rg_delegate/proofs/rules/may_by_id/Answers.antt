use Rattle.std.proofs.Common.{Some, sym, ap, ◌∙◌}
use Rattle.rg_delegate.proofs.Finding.{held_fits}
use Rattle.rg_delegate.proofs.rules.may_by_id.Goals as goal

pub may_administer-requires-clause-fits : goal.may_administer-requires-clause-fits
may_administer-requires-clause-fits c = held_fits c.args.state.now c.args.id.0 c.deref.result.now c.requires (sym c.in-Some.ensures ∙ ap Some (sym c.deref.ensures))
