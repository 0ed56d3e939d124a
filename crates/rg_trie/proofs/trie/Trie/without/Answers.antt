use Rattle.std.proofs.Common.{ap, ◌∙◌}
use Rattle.std.specs.Str.{chars}
use Rattle.rg_trie.specs.declared.pair.Pair.{Pair}
use Rattle.rg_trie.specs.Edited.{without_pair}
use Rattle.rg_trie.proofs.Placing.{removed}
use Rattle.rg_trie.proofs.trie.Trie.without.Goals as goal

pub invariant_of-result : goal.invariant_of-result
invariant_of-result c =
    let p : Pair = record { key = chars c.args.key.now; entry = c.args.entry } in
    removed p _ _ _ c.hash_of-hash.ensures _ _ c.get.ensures c.in_ok-tree.ensures _ _ _ _ c.self.invariant c.in_ok-bucket.ensures c.of.ensures

pub returns : goal.returns
returns c =
    let p : Pair = record { key = chars c.args.key.now; entry = c.args.entry } in
    c.of.ensures ∙ ap (without_pair p) c.self.view_is
