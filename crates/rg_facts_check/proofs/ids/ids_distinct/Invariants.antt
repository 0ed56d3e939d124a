use Rattle.std.proofs.Common.{◌≡◌, true, drop, ℤ}
use Rattle.std.specs.BTreeSet.{contains}
use Rattle.std.specs.List.{list_any}
use Rattle.std.specs.Ordering.{int_cmp, int_eq}
use Rattle.rg_base.specs.Texts.{all_distinct}
use Rattle.rg_facts_check.proofs.ids.ids_distinct.Given as goal

-- the ids from this place on were seen, each once
abbrev pub invariant-loop-at : goal.invariant-loop-at
invariant-loop-at l = record {
  seen : (id : ℤ) → contains int_cmp l.seen id ≡ list_any (int_eq id) (drop l.at l.ids);
  distinct : all_distinct int_eq (drop l.at l.ids) ≡ true;
}
