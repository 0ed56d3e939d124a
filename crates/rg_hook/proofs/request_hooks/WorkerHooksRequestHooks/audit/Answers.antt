use Rattle.std.specs.Str.{chars}
use Rattle.rg_hook.proofs.Told.{each_given}
use Rattle.rg_hook.proofs.request_hooks.WorkerHooksRequestHooks.audit.Goals as goal

pub returns-clause-given : goal.returns-clause-given
returns-clause-given g c = each_given _ _ (chars c.args.line.now) _ _ c.write.ensures
