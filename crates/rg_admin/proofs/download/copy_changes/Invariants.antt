use Rattle.std.proofs.Common.{◌≡◌, ◌++◌}
use Rattle.std.specs.VecDeque.Iter.{deque_iter_rest}
use Rattle.rg_admin.proofs.download.copy_changes.Given as goal

-- what is copied, with what is left
abbrev pub invariant-loop-change : goal.invariant-loop-change
invariant-loop-change l = record {
  spare : l.list.spare ≡ 0;
  all : l.list.items ++ deque_iter_rest l.change-iterator ≡ deque_iter_rest l.fn.changes;
}
