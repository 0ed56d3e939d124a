use Rattle.std.proofs.Common.{◌≡◌, true, rules}
use Rattle.rg_ask_wire.specs.Keeping.{is_keeping}
use Rattle.rg_keep.proofs.kept_admin.KeptAdmin.step_list.Goals as goal

pub keep-requires-clause-again : goal.keep-requires-clause-again
keep-requires-clause-again g c =
    let keeps : is_keeping c.args.ask.command ≡ true = search rules in
    c.in-Ok.ensures.again c.requires keeps
