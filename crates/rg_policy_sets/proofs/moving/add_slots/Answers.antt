use Rattle.std.proofs.Common.{◌<◌, ◌+◌, ◌++◌, ◌∷◌, [], rules, drop, length, map, sum_by, sym, ap, ◌∙◌, arith}
use Rattle.rg_index.specs.Filing.{pairs}
use Rattle.rg_policy_sets.specs.Kept.{held_in}
use Rattle.rg_policy_sets.specs.Moved.{is_compiled}
use Rattle.rg_policy_sets.proofs.Reshelved.{all_added, held_on, items_pass, items_sum, work_done, work_first, work_on}
use Rattle.rg_policy_sets.proofs.moving.add_slots.Goals as goal

pub loop-made-init : goal.loop-made-init
loop-made-init g c = record {
  held = search rules;
  rising = c.requires.rising;
  def = search rules;
  forms = c.requires.forms;
  fit = c.requires.fit;
  steps = work_first _ _ _;
}

pub add_slot-requires-clause-fits : goal.add_slot-requires-clause-fits
add_slot-requires-clause-fits g c =
    let q = is_compiled (g.C.Compile.passes c.args.compiler.now) c.args.def.now g.H.Fileable.form_of (g.C.Compile.hold c.args.compiler.now) in
    ap q c.made.view_is ∙ (items_pass c.args.added.now c.loop-made.made-index c.made-item.result (omega arith) c.made-item.is q c.loop-made.invariant.fit).0

pub returns-in_err-add_slot-clause-steps : goal.returns-in_err-add_slot-clause-steps
returns-in_err-add_slot-clause-steps g c =
    let n = c.loop-made.made-index in
    let x = c.made-item.result in
    let within : n < length c.args.added.now = omega arith in
    let rest = drop (n + 1) c.args.added.now in
    work_done _ _ _ _ _ _ (work_on _ _ _ _ _ _ _ _ _ c.loop-made.invariant.steps c.add_slot.ensures.steps _ _
    (items_sum c.args.added.now n x within c.made-item.is (λ (y : g.row.X.Denot). g.C.Compile.cost))
    (items_sum c.args.added.now n x within c.made-item.is (λ (y : g.row.X.Denot). pairs c.args.def.now (g.H.Fileable.form_of (g.C.Compile.hold c.args.compiler.now y)))
    ∙ ap (λ (y : g.row.X.Denot). pairs c.args.def.now (g.H.Fileable.form_of (g.C.Compile.hold c.args.compiler.now y)) + sum_by (λ (z : g.row.X.Denot). pairs c.args.def.now (g.H.Fileable.form_of (g.C.Compile.hold c.args.compiler.now z))) rest) (sym c.made.view_is)))

pub loop-made-preserved : goal.loop-made-preserved
loop-made-preserved g c =
    let hold = g.C.Compile.hold c.args.compiler.now in
    let n = c.loop-made.made-index in
    let x = c.made-item.result in
    let within : n < length c.args.added.now = omega arith in
    let rest = drop (n + 1) c.args.added.now in
    let old = held_in c.loop-made.moving.slots in
    record {
      held = held_on c.args.added.now n x within c.made-item.is hold old (held_in c.add_slot.new.moving.slots) (held_in c.args.moving.now.slots ++ map hold c.args.added.now)
          (c.in_ok-add_slot.ensures.held ∙ ap (λ (y : g.row.X.Denot). old ++ hold y ∷ []) c.made.view_is) c.loop-made.invariant.held;
      rising = c.in_ok-add_slot.ensures.rising;
      def = c.in_ok-add_slot.ensures.def;
      forms = c.in_ok-add_slot.ensures.forms;
      fit = (items_pass c.args.added.now n x within c.made-item.is (is_compiled (g.C.Compile.passes c.args.compiler.now) c.args.def.now g.H.Fileable.form_of hold) c.loop-made.invariant.fit).1;
      steps = work_on _ _ _ _ _ _ _ _ _ c.loop-made.invariant.steps c.add_slot.ensures.steps _ _
          (items_sum c.args.added.now n x within c.made-item.is (λ (y : g.row.X.Denot). g.C.Compile.cost))
          (items_sum c.args.added.now n x within c.made-item.is (λ (y : g.row.X.Denot). pairs c.args.def.now (g.H.Fileable.form_of (hold y)))
          ∙ ap (λ (y : g.row.X.Denot). pairs c.args.def.now (g.H.Fileable.form_of (hold y)) + sum_by (λ (z : g.row.X.Denot). pairs c.args.def.now (g.H.Fileable.form_of (hold z))) rest) (sym c.made.view_is));
    }

pub returns-clause-held : goal.returns-clause-held
returns-clause-held g c = all_added c.args.added.now c.loop-made.made-index (omega arith) (g.C.Compile.hold c.args.compiler.now) (held_in c.loop-made.moving.slots) (held_in c.args.moving.now.slots ++ map (g.C.Compile.hold c.args.compiler.now) c.args.added.now) c.loop-made.invariant.held

pub returns-clause-steps : goal.returns-clause-steps
returns-clause-steps g c = work_done _ _ _ _ _ _ c.loop-made.invariant.steps
