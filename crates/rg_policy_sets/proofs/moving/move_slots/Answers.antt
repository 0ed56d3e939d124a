use Rattle.std.proofs.Common.{◌<◌, ◌+◌, ◌++◌, drop, take, length, sym, ap, ◌∙◌, rules, arith, append-nil, w64}
use Rattle.std.proofs.lemmas.Int.{to_z-of_z}
use Rattle.rg_index.specs.Filing.{pairs}
use Rattle.rg_policy_sets.specs.Kept.{Placed, slot_forms}
use Rattle.rg_policy_sets.specs.Moved.{is_compiled}
use Rattle.rg_policy_sets.specs.Plan.{fate_of}
use Rattle.rg_policy_sets.proofs.Moves.{moved, slot_among, slot_between, slot_edits, slot_filed, slot_fits, slot_moved, slot_sum, slots_filed, slots_moved}
use Rattle.rg_policy_sets.proofs.Reshelved.{work_done, work_first, work_on}
use Rattle.rg_policy_sets.proofs.moving.move_slots.Goals as goal

pub loop-at-init : goal.loop-at-init
loop-at-init g c = record {
  slots = sym (append-nil c.args.moving.now.slots);
  def = sym c.requires.same;
  forms = λ before after is. is;
  fit = c.requires.fit;
  steps = work_first _ _ _;
}

pub move_slot-requires-clause-among : goal.move_slot-requires-clause-among
move_slot-requires-clause-among g c =
    let form = g.H.Fileable.form_of in
    let amid = c.requires.amid in
    let fate = c.fate_of-fate.ensures ∙ ap (fate_of c.args.places.now) (to_z-of_z w64 c.id.result (search rules) ∙ c.id.ensures) in
    slot_among form c.args.places.now c.args.slots.now c.loop-at.at c.index-slots-at.result (omega arith) c.index-slots-at.is c.fate_of-fate.result fate
    (g.C.Compile.hold c.args.compiler.now) amid.before amid.after c.loop-at.moving.index.forms (c.loop-at.invariant.forms amid.before amid.after amid.is)

pub move_slot-requires-clause-fit : goal.move_slot-requires-clause-fit
move_slot-requires-clause-fit g c =
    let form = g.H.Fileable.form_of in
    let fate = c.fate_of-fate.ensures ∙ ap (fate_of c.args.places.now) (to_z-of_z w64 c.id.result (search rules) ∙ c.id.ensures) in
    (slot_fits form c.args.places.now c.args.slots.now c.loop-at.at c.index-slots-at.result (omega arith) c.index-slots-at.is c.fate_of-fate.result fate
    (is_compiled (g.C.Compile.passes c.args.compiler.now) c.args.def.now form (g.C.Compile.hold c.args.compiler.now)) c.loop-at.invariant.fit).0

pub returns-in_err-move_slot-clause-steps : goal.returns-in_err-move_slot-clause-steps
returns-in_err-move_slot-clause-steps g c =
    let hold = g.C.Compile.hold c.args.compiler.now in
    let form = g.H.Fileable.form_of in
    let said = c.args.places.now in
    let slots = c.args.slots.now in
    let n = c.loop-at.at in
    let s = c.index-slots-at.result in
    let f = c.fate_of-fate.result in
    let within : n < length slots = omega arith in
    let fate = c.fate_of-fate.ensures ∙ ap (fate_of said) (to_z-of_z w64 c.id.result (search rules) ∙ c.id.ensures) in
    work_done _ _ _ _ _ _ (work_on _ _ _ _ _ _ _ _ _ c.loop-at.invariant.steps c.move_slot.ensures.steps _ _
    (slot_sum form said slots n s within c.index-slots-at.is f fate (λ (x : g.row.X.Denot). g.C.Compile.cost))
    (slot_edits form said slots n s within c.index-slots-at.is f fate (λ (t : Placed g.row.H.Denot). pairs c.args.def.now (form t.held)) (λ (x : g.row.X.Denot). pairs c.args.def.now (form (hold x)))))

pub loop-at-preserved : goal.loop-at-preserved
loop-at-preserved g c =
    let hold = g.C.Compile.hold c.args.compiler.now in
    let form = g.H.Fileable.form_of in
    let said = c.args.places.now in
    let slots = c.args.slots.now in
    let n = c.loop-at.at in
    let s = c.index-slots-at.result in
    let f = c.fate_of-fate.result in
    let within : n < length slots = omega arith in
    let fate = c.fate_of-fate.ensures ∙ ap (fate_of said) (to_z-of_z w64 c.id.result (search rules) ∙ c.id.ensures) in
    record {
      slots = slot_moved form said slots n s within c.index-slots-at.is f fate hold c.args.moving.now.slots c.loop-at.moving.slots c.move_slot.new.moving.slots c.loop-at.invariant.slots c.in_ok-move_slot.ensures.slots;
      def = c.in_ok-move_slot.ensures.def;
      forms = λ before after is.
          let so_far = c.loop-at.invariant.forms before after is in
          slot_filed form said slots n s within c.index-slots-at.is f fate hold before after c.loop-at.moving.index.forms so_far c.move_slot.new.moving.index.forms
          (c.in_ok-move_slot.ensures.forms (before ++ slot_forms form (moved form said hold (take n slots))) (slot_forms form (drop (n + 1) slots) ++ after)
          (slot_between form said slots n s within c.index-slots-at.is f fate hold before after c.loop-at.moving.index.forms so_far));
      fit = (slot_fits form said slots n s within c.index-slots-at.is f fate (is_compiled (g.C.Compile.passes c.args.compiler.now) c.args.def.now form hold) c.loop-at.invariant.fit).1;
      steps = work_on _ _ _ _ _ _ _ _ _ c.loop-at.invariant.steps c.move_slot.ensures.steps _ _
          (slot_sum form said slots n s within c.index-slots-at.is f fate (λ (x : g.row.X.Denot). g.C.Compile.cost))
          (slot_edits form said slots n s within c.index-slots-at.is f fate (λ (t : Placed g.row.H.Denot). pairs c.args.def.now (form t.held)) (λ (x : g.row.X.Denot). pairs c.args.def.now (form (hold x))));
    }

pub returns-clause-slots : goal.returns-clause-slots
returns-clause-slots g c =
    slots_moved g.H.Fileable.form_of c.args.places.now c.args.slots.now c.loop-at.at (omega arith) (g.C.Compile.hold c.args.compiler.now) c.args.moving.now.slots c.loop-at.moving.slots c.loop-at.invariant.slots

pub returns-clause-forms : goal.returns-clause-forms
returns-clause-forms g c = λ before after is.
    slots_filed g.H.Fileable.form_of c.args.places.now c.args.slots.now c.loop-at.at (omega arith) (g.C.Compile.hold c.args.compiler.now) before after c.loop-at.moving.index.forms (c.loop-at.invariant.forms before after is)

pub returns-clause-steps : goal.returns-clause-steps
returns-clause-steps g c = work_done _ _ _ _ _ _ c.loop-at.invariant.steps
