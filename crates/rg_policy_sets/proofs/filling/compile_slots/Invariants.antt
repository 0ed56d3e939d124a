use Rattle.std.proofs.Common.{◌≡◌, true, map, sum_by, take, drop}
use Rattle.std.specs.List.{list_all}
use Rattle.rg_policy_sets.specs.Bounds.{HasCompiled, WorkWithin}
use Rattle.rg_policy_sets.specs.Kept.{placed_from}
use Rattle.rg_policy_sets.proofs.filling.compile_slots.Given as goal

-- the slots so far, and the things to come pass their rules
abbrev pub invariant-loop-place : goal.invariant-loop-place
invariant-loop-place g l = record {
  so_far : l.slots.items ≡ placed_from 0 (map (g.C.Compile.hold l.compiler) (take l.place l.items));
  counted : WorkWithin (sum_by (λ x. g.C.Compile.cost) (take l.place l.items)) 0 l.fn.steps l.steps;
  compiled : HasCompiled (sum_by (λ x. g.C.Compile.cost) (take l.place l.items)) l.fn.steps l.steps;
  left : list_all (g.C.Compile.passes l.compiler) (drop l.place l.items) ≡ true;
}
