use Rattle.std.proofs.Common.{rules, arith, Bool}
use Rattle.std.proofs.lemmas.List.Sorted.{IsPartitionPoint-from_clause}
use Rattle.rg_trie.specs.Pairs.{Below, folded}
use Rattle.std.specs.Str.{chars}
use Rattle.rg_trie.specs.Sought.{before}
use Rattle.rg_trie.specs.Sought.{ends_passing}
use Rattle.rg_trie.specs.Blocks.{block_pairs}
use Rattle.rg_trie.specs.declared.pair.Pair.{Pair}
use Rattle.rg_trie.proofs.Orders.{before_early}
use Rattle.rg_trie.proofs.Rise.{blocks_partitioned, blocks_pass}
use Rattle.rg_trie.proofs.seek.block_of.Goals as goal

pub returns-clause-passed : goal.returns-clause-passed
returns-clause-passed c =
    let test : Pair → Bool = before (folded c.args.fold (chars c.args.text.now)) c.args.mark in
    let early = before_early (folded c.args.fold (chars c.args.text.now)) c.args.mark in
    let parted = blocks_partitioned Below test early block_pairs c.args.blocks.now c.requires.ordered (λ k d l. (c.requires.sized k d l).filled) in
    let point = IsPartitionPoint-from_clause (λ b. ends_passing test (block_pairs b)) _ _ c.partition_point.ensures.partitioned parted (λ a r q k. search rules) in
    blocks_pass Below test early block_pairs c.args.blocks.now c.partition_point.result c.partition_point.ensures.bound c.requires.ordered point.0

pub returns-clause-stopped : goal.returns-clause-stopped
returns-clause-stopped c d l =
    let test : Pair → Bool = before (folded c.args.fold (chars c.args.text.now)) c.args.mark in
    let early = before_early (folded c.args.fold (chars c.args.text.now)) c.args.mark in
    let parted = blocks_partitioned Below test early block_pairs c.args.blocks.now c.requires.ordered (λ k d l. (c.requires.sized k d l).filled) in
    let point = IsPartitionPoint-from_clause (λ b. ends_passing test (block_pairs b)) _ _ c.partition_point.ensures.partitioned parted (λ a r q k. search rules) in
    point.1 c.partition_point.result d (omega arith) l
