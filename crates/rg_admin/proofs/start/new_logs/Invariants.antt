use Rattle.std.proofs.Common.{◌≡◌, take}
use Rattle.rg_admin_laws.specs.Starts.{new_logs}
use Rattle.rg_admin.specs.Held.{logs_of}
use Rattle.rg_admin.proofs.start.new_logs.Given as goal

abbrev pub invariant-loop-row : goal.invariant-loop-row
invariant-loop-row l = logs_of l.logs.items ≡ new_logs (take l.row-index l.services)
