use Rattle.std.proofs.Common.{◌++◌, List, map, refl, sym, ap, ◌∙◌}
use Rattle.std.proofs.lemmas.List.{map-append}
use Rattle.rg_index.specs.Filing.{pairs}
use Rattle.rg_policy_sets.specs.Kept.{Placed, Shelved, all_in, are_rising, held_in}
use Rattle.rg_policy_sets.specs.Moved.{moved_slots, places_of, plan_on}
use Rattle.rg_policy_sets.specs.Plan.{Planned, left_of, standing}
use Rattle.rg_policy_sets.proofs.Counting.{no_work}
use Rattle.rg_policy_sets.proofs.Refiled.{free_none}
use Rattle.rg_policy_sets.proofs.Reshelved.{moved_held, moved_rise, moved_work}
use Rattle.rg_policy_sets.proofs.shelf.Shelf.moved.Goals as goal

pub apply-requires-clause-free : goal.apply-requires-clause-free
apply-requires-clause-free g c = free_none c.self.inside.index.forms

pub returns-in_err-moving-clause-steps : goal.returns-in_err-moving-clause-steps
returns-in_err-moving-clause-steps g c =
    let form = g.H.Fileable.form_of in
    let said = c.deref.ensures.value ∙ ap (λ (p : Planned g.row.X.Denot). p.places) c.plan.view_is in
    let slots = c.as_pages-pages.ensures.slots ∙ ap (λ (s : Shelved g.row.H.Denot). s.slots) c.self.view_is in
    moved_work (λ (x : g.row.X.Denot). g.C.Compile.cost) (λ (x : g.row.X.Denot). pairs c.args.def.now (form (g.C.Compile.hold c.args.compiler.now x)))
    (λ (s : Placed g.row.H.Denot). pairs c.args.def.now (form s.held)) (plan_on form c.args.self.now.slots c.args.plan.now) c.args.self.now.slots (places_of form c.deref.result.now (all_in c.as_pages-pages.result.now)) c.args.plan.now.added (all_in c.as_pages-pages.result.now)
    (λ i. places_of form (said i) (slots i)) refl slots
    c.args.steps.now c.apply.new.steps c.move_pages.new.steps c.move_pages.new.steps c.apply.ensures.steps c.move_pages.ensures.steps (no_work _ _ _)

pub add_slots-requires-clause-rising : goal.add_slots-requires-clause-rising
add_slots-requires-clause-rising g c =
    ap are_rising c.in_ok-moving.ensures.slots
    ∙ moved_rise (g.C.Compile.hold c.args.compiler.now) (places_of g.H.Fileable.form_of c.deref.result.now (all_in c.as_pages-pages.result.now)) (all_in c.as_pages-pages.result.now) (ap are_rising c.as_pages-pages.ensures.slots ∙ c.self.invariant.1)

pub returns-in_err-add_slots-clause-steps : goal.returns-in_err-add_slots-clause-steps
returns-in_err-add_slots-clause-steps g c =
    let form = g.H.Fileable.form_of in
    let said = c.deref.ensures.value ∙ ap (λ (p : Planned g.row.X.Denot). p.places) c.plan.view_is in
    let slots = c.as_pages-pages.ensures.slots ∙ ap (λ (s : Shelved g.row.H.Denot). s.slots) c.self.view_is in
    moved_work (λ (x : g.row.X.Denot). g.C.Compile.cost) (λ (x : g.row.X.Denot). pairs c.args.def.now (form (g.C.Compile.hold c.args.compiler.now x)))
    (λ (s : Placed g.row.H.Denot). pairs c.args.def.now (form s.held)) (plan_on form c.args.self.now.slots c.args.plan.now) c.args.self.now.slots (places_of form c.deref.result.now (all_in c.as_pages-pages.result.now)) c.deref-2.result.now (all_in c.as_pages-pages.result.now)
    (λ i. places_of form (said i) (slots i)) (c.deref-2.ensures.value ∙ ap (λ (p : Planned g.row.X.Denot). p.added) c.plan.view_is) slots
    c.args.steps.now c.apply.new.steps c.move_pages.new.steps c.add_slots.new.steps c.apply.ensures.steps c.move_pages.ensures.steps c.add_slots.ensures.steps

pub returns-in_err-slots-clause-steps : goal.returns-in_err-slots-clause-steps
returns-in_err-slots-clause-steps g c =
    let form = g.H.Fileable.form_of in
    let said = c.deref.ensures.value ∙ ap (λ (p : Planned g.row.X.Denot). p.places) c.plan.view_is in
    let slots = c.as_pages-pages.ensures.slots ∙ ap (λ (s : Shelved g.row.H.Denot). s.slots) c.self.view_is in
    moved_work (λ (x : g.row.X.Denot). g.C.Compile.cost) (λ (x : g.row.X.Denot). pairs c.args.def.now (form (g.C.Compile.hold c.args.compiler.now x)))
    (λ (s : Placed g.row.H.Denot). pairs c.args.def.now (form s.held)) (plan_on form c.args.self.now.slots c.args.plan.now) c.args.self.now.slots (places_of form c.deref.result.now (all_in c.as_pages-pages.result.now)) c.deref-2.result.now (all_in c.as_pages-pages.result.now)
    (λ i. places_of form (said i) (slots i)) (c.deref-2.ensures.value ∙ ap (λ (p : Planned g.row.X.Denot). p.added) c.plan.view_is) slots
    c.args.steps.now c.apply.new.steps c.move_pages.new.steps c.add_slots.new.steps c.apply.ensures.steps c.move_pages.ensures.steps c.add_slots.ensures.steps

pub returns-clause-held : goal.returns-clause-held
returns-clause-held g c = λ xs are.
    let hold = g.C.Compile.hold c.args.compiler.now in
    let form = g.H.Fileable.form_of in
    let added = c.plan.inside.added.items in
    let places = places_of form c.plan.inside.places.items c.self.inside.slots in
    ap held_in c.in_ok-slots.ensures
    ∙ c.in_ok-add_slots.ensures.held
    ∙ (λ i. held_in (c.in_ok-moving.ensures.slots i) ++ map hold (c.deref-2.ensures.value i))
    ∙ (λ i. held_in (moved_slots hold (places_of form (c.deref.ensures.value i) (c.as_pages-pages.ensures.slots i)) (c.as_pages-pages.ensures.slots i)) ++ map hold added)
    ∙ ap (λ (l : List g.row.H.Denot). l ++ map hold added)
    (moved_held hold places c.self.inside.slots xs (ap (λ (s : Shelved g.row.H.Denot). held_in s.slots) c.self.view_is ∙ are))
    ∙ sym (map-append hold (left_of places xs) added)
    ∙ (λ i. map hold (standing (plan_on form (c.self.view_is i).slots (c.plan.view_is i)) xs))

pub returns-clause-steps : goal.returns-clause-steps
returns-clause-steps g c =
    let form = g.H.Fileable.form_of in
    let said = c.deref.ensures.value ∙ ap (λ (p : Planned g.row.X.Denot). p.places) c.plan.view_is in
    let slots = c.as_pages-pages.ensures.slots ∙ ap (λ (s : Shelved g.row.H.Denot). s.slots) c.self.view_is in
    moved_work (λ (x : g.row.X.Denot). g.C.Compile.cost) (λ (x : g.row.X.Denot). pairs c.args.def.now (form (g.C.Compile.hold c.args.compiler.now x)))
    (λ (s : Placed g.row.H.Denot). pairs c.args.def.now (form s.held)) (plan_on form c.args.self.now.slots c.args.plan.now) c.args.self.now.slots (places_of form c.deref.result.now (all_in c.as_pages-pages.result.now)) c.deref-2.result.now (all_in c.as_pages-pages.result.now)
    (λ i. places_of form (said i) (slots i)) (c.deref-2.ensures.value ∙ ap (λ (p : Planned g.row.X.Denot). p.added) c.plan.view_is) slots
    c.args.steps.now c.apply.new.steps c.move_pages.new.steps c.add_slots.new.steps c.apply.ensures.steps c.move_pages.ensures.steps c.add_slots.ensures.steps
