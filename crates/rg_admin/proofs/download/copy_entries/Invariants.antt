use Rattle.std.proofs.Common.{◌≡◌, ◌||◌, ◌++◌}
use Rattle.std.specs.List.{filter_map, list_any}
use Rattle.std.specs.VecDeque.Iter.{deque_iter_rest}
use Rattle.rg_admin_laws.specs.Downloads.{is_of_zones, policy_change}
use Rattle.rg_admin.proofs.download.copy_entries.Given as goal

-- what is copied, with what is left
abbrev pub invariant-loop-entry : goal.invariant-loop-entry
invariant-loop-entry l = record {
  spare : l.changes.spare ≡ 0;
  changes : l.changes.items ++ filter_map policy_change (deque_iter_rest l.entry-iterator) ≡ filter_map policy_change (deque_iter_rest l.fn.entries);
  zones : (l.of_zones || list_any is_of_zones (deque_iter_rest l.entry-iterator)) ≡ list_any is_of_zones (deque_iter_rest l.fn.entries);
}
