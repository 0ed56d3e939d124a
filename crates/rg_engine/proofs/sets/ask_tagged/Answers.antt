use Rattle.std.proofs.Common.{ap, subst}
use Rattle.rg_policy.specs.declared.request.Resource.{Resource}
use Rattle.rg_facts.specs.Best.{Best}
use Rattle.rg_engine.specs.Asked.{Finds, all_tagged, reaching_tags}
use Rattle.rg_engine.proofs.Tagged.{found_tagged, tries_tagged}
use Rattle.rg_engine.proofs.sets.ask_tagged.Goals as goal

pub returns-clause-best : goal.returns-clause-best
returns-clause-best g c = λ facts set_is rows_are.
    let s = c.args.setting.now in
    let set = c.args.policies.now in
    let visited = c.visit-visits.result in
    found_tagged s facts set c.args.rows.now visited c.args.resource.now.elements.items set_is rows_are (ap (λ (r : Resource). r.elements.items) c.requires.resource) c.visit-visits.ensures.among
    c.ask_rows.result c.visit-visits.ensures.all
    (subst (λ (b : Best). Finds s (all_tagged set (reaching_tags s.request.resource.elements.items visited)) b c.ask_rows.result) c.none.ensures c.ask_rows.ensures.best)

pub returns-clause-tries : goal.returns-clause-tries
returns-clause-tries g c = λ facts set_is rows_are.
    tries_tagged c.args.setting.now facts c.args.policies.now c.args.rows.now c.visit-visits.result c.args.resource.now.elements.items set_is rows_are (ap (λ (r : Resource). r.elements.items) c.requires.resource) c.visit-visits.ensures.among
    c.args.steps.now c.ask_rows.new.steps c.visit-visits.ensures.few c.visit-visits.ensures.once c.ask_rows.ensures.tries
