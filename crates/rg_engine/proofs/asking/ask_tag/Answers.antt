use Rattle.std.proofs.Common.{◌≤◌, Some, length, subst}
use Rattle.std.specs.Str.{chars}
use Rattle.rg_resmatch.specs.Tests.{tag_elements}
use Rattle.rg_evalr.specs.Frames.{def_of}
use Rattle.rg_index.specs.Candidates.{bound}
use Rattle.rg_policy_sets.specs.Bounds.{policy_forms}
use Rattle.rg_engine.specs.Asked.{tag_tries}
use Rattle.rg_engine.proofs.Counting.{more_tries}
use Rattle.rg_engine.proofs.Found.{finds_visited, lies_on_tag}
use Rattle.rg_engine.proofs.asking.ask_tag.Goals as goal

pub returns-clause-best : goal.returns-clause-best
returns-clause-best g c =
    let s = c.args.setting.now in
    let set = c.args.policies.now in
    let tag = c.args.tag.now in
    finds_visited s set (Some tag) c.visit_tag-visits.result c.visit_tag-visits.ensures.among
    (λ p there lies. c.visit_tag-visits.ensures.all p s.request.user there (lies_on_tag s set tag (chars c.as_str.result.now) p c.requires c.as_str.ensures.read lies))
    c.args.best c.ask_visited.result c.ask_visited.ensures.best

pub returns-clause-tries : goal.returns-clause-tries
returns-clause-tries g c =
    let set = c.args.policies.now in
    let few : length c.visit_tag-visits.result ≤ tag_tries set c.args.tag.now =
    subst (λ k. length c.visit_tag-visits.result ≤ bound (def_of set.frame set.side) (policy_forms set.policies) (tag_elements k)) c.as_str.ensures.read c.visit_tag-visits.ensures.few in
    more_tries (length c.visit_tag-visits.result) (tag_tries set c.args.tag.now) c.args.steps.now c.ask_visited.new.steps few c.ask_visited.ensures.tries
