use Rattle.std.proofs.Common.{◌≡◌, ◌++◌, length, take}
use Rattle.rg_acl.specs.Rows.{rows_of}
use Rattle.rg_acl.specs.Work.{IsTriedFor, NothingMade, bound_for}
use Rattle.rg_acl.proofs.asking.add_rows.Given as goal

abbrev pub invariant-loop-asker : goal.invariant-loop-asker
invariant-loop-asker g l = record {
  rows : l.rows.items ≡ l.fn.rows.items ++ rows_of l.engine l.ask l.accesses (take l.asker-index l.askers);
  made : NothingMade l.fn.steps l.steps;
  tries : IsTriedFor (bound_for l.engine l.ask) (length l.fn.rows.items) (length l.rows.items) l.fn.steps l.steps;
}
