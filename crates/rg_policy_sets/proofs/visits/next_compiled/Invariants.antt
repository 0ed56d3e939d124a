use Rattle.std.proofs.Common.{◌≡◌, length, true}
use Rattle.std.specs.List.{list_all}
use Rattle.rg_policy_sets.specs.Kept.{all_held, is_held}
use Rattle.rg_policy_sets.specs.Marks.{admitted}
use Rattle.rg_policy_sets.proofs.visits.next_compiled.Given as goal

-- no policy so far was admitted
abbrev pub invariant-policies : goal.invariant-policies
invariant-policies l = record {
  held : list_all (is_held l.slots) l.candidates ≡ true;
  same : admitted l.first l.second (all_held l.slots l.candidates) ≡ admitted l.first l.second (all_held l.slots l.fn.candidates);
}

abbrev pub decreases-policies : goal.decreases-policies
decreases-policies l = length (all_held l.slots l.candidates)
