use Rattle.std.proofs.Common.{◌≡◌, ◌++◌, length, take}
use Rattle.rg_acl.specs.Rows.{rows_for}
use Rattle.rg_acl.specs.Work.{IsTriedFor, NothingMade, bound_for}
use Rattle.rg_acl.proofs.asking.add_rows_for.Given as goal

abbrev pub invariant-loop-access : goal.invariant-loop-access
invariant-loop-access g l = record {
  rows : l.rows.items ≡ l.fn.rows.items ++ rows_for l.engine l.ask (take l.access-index l.accesses) l.asker;
  made : NothingMade l.fn.steps l.steps;
  tries : IsTriedFor (bound_for l.engine l.ask) (length l.fn.rows.items) (length l.rows.items) l.fn.steps l.steps;
}
