use Rattle.std.proofs.Common.{None, length, ap}
use Rattle.rg_policy.specs.declared.request.Resource.{Resource}
use Rattle.rg_evalr.specs.Frames.{def_of}
use Rattle.rg_index.specs.Candidates.{bound}
use Rattle.rg_policy_sets.specs.Bounds.{policy_forms}
use Rattle.rg_engine.proofs.Counting.{more_tries}
use Rattle.rg_engine.proofs.Found.{finds_visited, lies_on_resource}
use Rattle.rg_engine.proofs.asking.ask_policies.Goals as goal

pub returns-clause-best : goal.returns-clause-best
returns-clause-best g c =
    let s = c.args.setting.now in
    let set = c.args.policies.now in
    finds_visited s set None c.visit-visits.result c.visit-visits.ensures.among
    (λ p there lies. c.visit-visits.ensures.all p s.request.user there (lies_on_resource s set c.args.resource.now.elements.items p c.requires.side (ap (λ (r : Resource). r.elements.items) c.requires.resource) lies))
    c.args.best c.ask_visited.result c.ask_visited.ensures.best

pub returns-clause-tries : goal.returns-clause-tries
returns-clause-tries g c =
    let set = c.args.policies.now in
    more_tries (length c.visit-visits.result) (bound (def_of set.frame set.side) (policy_forms set.policies) c.args.resource.now.elements.items) c.args.steps.now c.ask_visited.new.steps c.visit-visits.ensures.few c.ask_visited.ensures.tries
