use Rattle.std.proofs.Common.{rules, ap, Bool, int_lt, option_map}
use Rattle.std.proofs.lemmas.List.Sorted.{IsPartitionPoint-from_clause}
use Rattle.rg_policy_sets.specs.Kept.{Placed}
use Rattle.rg_policy_sets.proofs.Rising.{found_at, partitioned}
use Rattle.rg_policy_sets.proofs.slots.place_of.Goals as goal

pub returns : goal.returns
returns g c =
    let test : Placed _ → Bool = λ s. int_lt s.ordinal c.args.ordinal in
    let parted = partitioned c.args.ordinal c.args.slots.now c.requires in
    let point = IsPartitionPoint-from_clause test _ _ c.partition_point.ensures.partitioned parted (λ a r q k. search rules) in
    ap (option_map (λ (s : Placed _). s.held)) (found_at c.args.ordinal c.args.slots.now c.partition_point.result c.requires c.partition_point.ensures.bound point.0 point.1)
