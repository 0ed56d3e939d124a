use Rattle.std.proofs.Common.{◌≡◌, ◌++◌, drop, map, true}
use Rattle.std.specs.List.{list_all, sum_by}
use Rattle.rg_index.specs.Filing.{pairs}
use Rattle.rg_policy_sets.specs.Kept.{are_rising, held_in, slot_forms}
use Rattle.rg_policy_sets.specs.Moved.{WorkLeft, is_compiled}
use Rattle.rg_policy_sets.proofs.moving.add_slots.Given as goal

-- the things before this one have slots, and the index has the forms of all
abbrev pub invariant-loop-made : goal.invariant-loop-made
invariant-loop-made g l =
    let hold = g.C.Compile.hold l.compiler in
    let form = g.H.Fileable.form_of in
    record {
      held : held_in l.moving.slots ++ map hold (drop l.made-index l.added) ≡ held_in l.fn.moving.slots ++ map hold l.added;
      rising : are_rising l.moving.slots ≡ true;
      def : l.moving.index.def ≡ l.def;
      forms : l.moving.index.forms ≡ slot_forms form l.moving.slots;
      fit : list_all (is_compiled (g.C.Compile.passes l.compiler) l.def form hold) (drop l.made-index l.added) ≡ true;
      steps : WorkLeft (sum_by (λ x. g.C.Compile.cost) (drop l.made-index l.added))
          (sum_by (λ x. pairs l.def (form (hold x))) (drop l.made-index l.added))
          (sum_by (λ x. g.C.Compile.cost) l.added)
          (sum_by (λ x. pairs l.def (form (hold x))) l.added) l.fn.steps l.steps;
    }
