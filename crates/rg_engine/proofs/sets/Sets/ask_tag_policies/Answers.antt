use Rattle.std.proofs.Common.{sym, ap, subst, ◌∙◌, arith}
use Rattle.rg_facts.specs.Best.{none_yet}
use Rattle.rg_facts.specs.Candidates.{tags_of}
use Rattle.rg_index.specs.Candidates.{bound}
use Rattle.rg_policy_sets.specs.Bounds.{row_forms}
use Rattle.rg_engine.specs.Asked.{Finds}
use Rattle.rg_engine.specs.Parts.{Compiled, IsTagSet, tag_policies_of}
use Rattle.rg_engine.proofs.Counting.{more_tries, no_try}
use Rattle.rg_engine.proofs.Tagged.{found_untagged, is_row_set, is_tag_set, tagged_tries}
use Rattle.rg_engine.proofs.sets.Sets.ask_tag_policies.Goals as goal

pub ask_tagged-requires-clause-side : goal.ask_tagged-requires-clause-side
ask_tagged-requires-clause-side g c = (subst (IsTagSet c.self.inside.policies.frame) c.in-Some.is c.self.invariant.1).1

pub ask_tagged-requires-clause-resource : goal.ask_tagged-requires-clause-resource
ask_tagged-requires-clause-resource g c = c.requires

pub returns-in-Some-clause-best : goal.returns-in-Some-clause-best
returns-in-Some-clause-best g c = λ facts same.
    let view = c.self.view_is ∙ same in
    let set = subst (IsTagSet c.self.inside.policies.frame) c.in-Some.is c.self.invariant.1 in
    c.ask_tagged.ensures.best facts
    (is_tag_set facts c.in-Some.policies c.self.inside.policies.frame (ap (λ (x : Compiled). x.frame) view) set (sym (ap tag_policies_of c.in-Some.is) ∙ ap (λ (x : Compiled). x.tag_policies) view))
    (is_row_set facts c.self.inside.rows (c.self.invariant.2 ∙ ap (λ (x : Compiled). x.frame.def) view) (ap (λ (x : Compiled). x.rows) view))

pub returns-in-Some-clause-tries : goal.returns-in-Some-clause-tries
returns-in-Some-clause-tries g c = λ facts same.
    let view = c.self.view_is ∙ same in
    let set = subst (IsTagSet c.self.inside.policies.frame) c.in-Some.is c.self.invariant.1 in
    let set_is = is_tag_set facts c.in-Some.policies c.self.inside.policies.frame (ap (λ (x : Compiled). x.frame) view) set (sym (ap tag_policies_of c.in-Some.is) ∙ ap (λ (x : Compiled). x.tag_policies) view) in
    tagged_tries facts c.in-Some.policies set.2.0 set_is (ap (λ (x : Compiled). x.frame.tag_def) (sym view) ∙ set.2.1) (tags_of facts c.args.setting.now.request)
    (bound facts.def (row_forms facts.tag_rows.items) c.args.resource.now.elements.items) _ _
    (c.ask_tagged.ensures.tries facts set_is (is_row_set facts c.self.inside.rows (c.self.invariant.2 ∙ ap (λ (x : Compiled). x.frame.def) view) (ap (λ (x : Compiled). x.rows) view)))

pub returns-in-None-clause-best : goal.returns-in-None-clause-best
returns-in-None-clause-best g c = λ facts same.
    let none = sym (ap (λ (x : Compiled). x.tag_policies) (c.self.view_is ∙ same)) ∙ ap tag_policies_of c.in-None.is in
    subst (Finds c.args.setting.now _ none_yet) (sym c.none.ensures) (found_untagged c.args.setting.now facts (tags_of facts c.args.setting.now.request) none_yet none)

pub returns-in-None-clause-tries : goal.returns-in-None-clause-tries
returns-in-None-clause-tries g c = λ facts same. more_tries 0 _ c.args.steps.now c.args.steps.now (omega arith) (no_try c.args.steps.now)
