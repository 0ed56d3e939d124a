use Rattle.std.proofs.Common.{rules, ◌≡◌, Bool, true, false}
use Rattle.std.proofs.lemmas.List.Sorted.{IsPartitionPoint-from_clause}
use Rattle.rg_trie.specs.Pairs.{Below, folded}
use Rattle.std.specs.Str.{chars}
use Rattle.rg_trie.specs.Sought.{before}
use Rattle.rg_trie.specs.declared.pair.Pair.{Pair}
use Rattle.rg_trie.proofs.Orders.{before_early}
use Rattle.rg_trie.proofs.Rise.{partitioned, all_taken, all_dropped}
use Rattle.rg_trie.proofs.seek.place_of.Goals as goal

pub returns-clause-passed : goal.returns-clause-passed
returns-clause-passed c =
    let test : Pair → Bool = before (folded c.args.fold (chars c.args.text.now)) c.args.mark in
    let parted = partitioned Below test (before_early _ c.args.mark) c.args.pairs.now c.requires in
    let point = IsPartitionPoint-from_clause test _ _ c.partition_point.ensures.partitioned parted (λ a r q k. search rules) in
    all_taken Below (λ p. test p ≡ true) c.args.pairs.now c.partition_point.result c.partition_point.ensures.bound point.0

pub returns-clause-left : goal.returns-clause-left
returns-clause-left c =
    let test : Pair → Bool = before (folded c.args.fold (chars c.args.text.now)) c.args.mark in
    let parted = partitioned Below test (before_early _ c.args.mark) c.args.pairs.now c.requires in
    let point = IsPartitionPoint-from_clause test _ _ c.partition_point.ensures.partitioned parted (λ a r q k. search rules) in
    all_dropped Below (λ p. test p ≡ false) c.args.pairs.now c.partition_point.result point.1
