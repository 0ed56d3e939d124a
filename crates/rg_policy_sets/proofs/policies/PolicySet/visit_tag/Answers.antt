use Rattle.std.specs.Str.{chars}
use Rattle.rg_resmatch.specs.Tests.{tag_elements}
use Rattle.rg_policy_sets.specs.Seen.{source}
use Rattle.rg_policy_sets.proofs.Marking.{unasked_admits}
use Rattle.rg_policy_sets.proofs.Sets.{all_visits, among_visits, few_visits}
use Rattle.rg_policy_sets.proofs.policies.PolicySet.visit_tag.Goals as goal

pub returns-clause-few : goal.returns-clause-few
returns-clause-few c =
    few_visits c.args.self.now c.self.inside.frame.value c.self.inside.side c.self.inside.shelf c.self.view_is c.self.invariant.0 (tag_elements (chars c.args.tag.now)) c.candidates_tag.result
    c.slots.result.now c.slots.ensures.slots c.nothing-first.result c.nothing-second.result c.of.result c.of.ensures c.candidates_tag.ensures

pub returns-clause-among : goal.returns-clause-among
returns-clause-among c =
    among_visits c.args.self.now c.self.inside.frame.value c.self.inside.side c.self.inside.shelf c.self.view_is c.self.invariant.0 (tag_elements (chars c.args.tag.now)) c.candidates_tag.result
    c.slots.result.now c.slots.ensures.slots c.nothing-first.result c.nothing-second.result c.of.result c.of.ensures

pub returns-clause-all : goal.returns-clause-all
returns-clause-all c =
    all_visits c.args.self.now c.self.inside.frame.value c.self.inside.side c.self.inside.shelf c.self.view_is c.self.invariant.0 (tag_elements (chars c.args.tag.now)) c.candidates_tag.result
    c.slots.result.now c.slots.ensures.slots c.nothing-first.result c.nothing-second.result c.of.result c.of.ensures c.candidates_tag.ensures
    (λ p user lying. unasked_admits c.nothing-first.result c.nothing-second.result c.nothing-first.ensures c.nothing-second.ensures (source c.self.inside.frame.value c.self.inside.side p))
