use Rattle.std.proofs.Common.{◌≡◌, ◌+◌, ◌++◌, List, drop, take, true}
use Rattle.std.specs.List.{list_all, sum_by}
use Rattle.rg_index.specs.Filing.{pairs}
use Rattle.rg_index.specs.declared.form.Form.{Form}
use Rattle.rg_policy_sets.specs.Kept.{slot_forms}
use Rattle.rg_policy_sets.specs.Moved.{WorkLeft, is_compiled, moved_slots, places_of}
use Rattle.rg_policy_sets.specs.Plan.{lost, put_at}
use Rattle.rg_policy_sets.proofs.moving.move_slots.Given as goal

-- the slots before this place have moved, and the index has their forms in the place of what it had of them
abbrev pub invariant-loop-at : goal.invariant-loop-at
invariant-loop-at g l =
    let hold = g.C.Compile.hold l.compiler in
    let form = g.H.Fileable.form_of in
    record {
      slots : l.moving.slots ≡ l.fn.moving.slots ++ moved_slots hold (places_of form l.places (take l.at l.slots)) (take l.at l.slots);
      def : l.moving.index.def ≡ l.def;
      forms : (before after : List Form) → l.fn.moving.index.forms ≡ before ++ (slot_forms form l.slots ++ after)
          → l.moving.index.forms ≡ before ++ (slot_forms form (moved_slots hold (places_of form l.places (take l.at l.slots)) (take l.at l.slots)) ++ (slot_forms form (drop l.at l.slots) ++ after));
      fit : list_all (is_compiled (g.C.Compile.passes l.compiler) l.def form hold) (put_at (places_of form l.places (drop l.at l.slots))) ≡ true;
      steps : WorkLeft (sum_by (λ x. g.C.Compile.cost) (put_at (places_of form l.places (drop l.at l.slots))))
          (lost (λ s. pairs l.def (form s.held)) (places_of form l.places (drop l.at l.slots)) (drop l.at l.slots)
          + sum_by (λ x. pairs l.def (form (hold x))) (put_at (places_of form l.places (drop l.at l.slots))))
          (sum_by (λ x. g.C.Compile.cost) (put_at (places_of form l.places l.slots)))
          (lost (λ s. pairs l.def (form s.held)) (places_of form l.places l.slots) l.slots + sum_by (λ x. pairs l.def (form (hold x))) (put_at (places_of form l.places l.slots))) l.fn.steps l.steps;
    }
