use Rattle.std.proofs.Common.{◌≡◌, ◌+◌, ◌++◌, drop, take, true}
use Rattle.std.specs.List.{list_all, sum_by}
use Rattle.rg_index.specs.Filing.{pairs}
use Rattle.rg_policy_sets.specs.Kept.{all_in, is_filled, slot_forms}
use Rattle.rg_policy_sets.specs.Moved.{WorkLeft, is_compiled, moved_slots, places_of}
use Rattle.rg_policy_sets.specs.Plan.{lost, put_at}
use Rattle.rg_policy_sets.proofs.moving.move_pages.Given as goal

-- the slots of the pages before this place have moved, and the index has their forms and those of the others
abbrev pub invariant-loop-at : goal.invariant-loop-at
invariant-loop-at g l =
    let hold = g.C.Compile.hold l.compiler in
    let form = g.H.Fileable.form_of in
    let left = all_in (drop l.at l.pages) in
    let all = all_in l.pages in
    record {
      slots : l.moving.slots ≡ moved_slots hold (places_of form l.places (all_in (take l.at l.pages))) (all_in (take l.at l.pages));
      def : l.moving.index.def ≡ l.def;
      forms : l.moving.index.forms ≡ slot_forms form l.moving.slots ++ slot_forms form left;
      filled : list_all is_filled (drop l.at l.pages) ≡ true;
      fit : list_all (is_compiled (g.C.Compile.passes l.compiler) l.def form hold) (put_at (places_of form l.places left)) ≡ true;
      steps : WorkLeft (sum_by (λ x. g.C.Compile.cost) (put_at (places_of form l.places left)))
          (lost (λ s. pairs l.def (form s.held)) (places_of form l.places left) left + sum_by (λ x. pairs l.def (form (hold x))) (put_at (places_of form l.places left)))
          (sum_by (λ x. g.C.Compile.cost) (put_at (places_of form l.places all)))
          (lost (λ s. pairs l.def (form s.held)) (places_of form l.places all) all + sum_by (λ x. pairs l.def (form (hold x))) (put_at (places_of form l.places all))) l.fn.steps l.steps;
    }
