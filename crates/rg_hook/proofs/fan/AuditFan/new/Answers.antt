use Rattle.std.proofs.Common.{arith}
use Rattle.rg_hook.proofs.Zips.{zip_same}
use Rattle.rg_hook.proofs.fan.AuditFan.new.Goals as goal

pub returns : goal.returns
returns g c = zip_same c.args.sinks.items 0 16 (omega (arith, c.requires))
