use Rattle.std.proofs.Common.{rules, ◌≡◌, ◌<◌, List, length, get_or}
use Rattle.rg_policy.specs.declared.policy.Policy.{Policy}
use Rattle.rg_same_resources.specs.Counts.{IsAdded}
use Rattle.rg_same_resources.specs.Prints.{prints_of}
use Rattle.rg_validate.proofs.Counted.{counted_more}
use Rattle.rg_validate.proofs.rules.counts_of.Goals as goal

pub loop-policy-preserved : goal.loop-policy-preserved
loop-policy-preserved c =
    let ps : List Policy = c.args.state.now.policies.items in
    let i = c.loop-policy.policy-index in
    let p : Policy = c.policy-item.result in
    let within : i < length ps = search rules in
    let is : p ≡ get_or ps i p = search rules in
    let added : IsAdded (prints_of p) c.loop-policy.counts c.add.new.self = search rules in
    counted_more c.loop-policy.counts c.add.new.self ps i p within is c.loop-policy.invariant added
