use Rattle.std.proofs.Common.{ap, ◌∙◌}
use Rattle.std.specs.Str.{chars}
use Rattle.rg_trie.specs.declared.pair.Pair.{Pair}
use Rattle.rg_trie.specs.Edited.{with_pair}
use Rattle.rg_trie.proofs.Placing.{inserted}
use Rattle.rg_trie.proofs.trie.Trie.with.Goals as goal

pub invariant_of-result : goal.invariant_of-result
invariant_of-result c =
    let p : Pair = record { key = chars c.args.key.now; entry = c.args.entry } in
    inserted p _ _ _ c.hash_of-hash.ensures _ _ c.get.ensures c.in_ok-tree.ensures _ _ _ _ c.self.invariant _ _ _ c.in_ok-bucket.ensures c.in-Some.ensures.1 c.char_count.ensures c.with.ensures c.of.ensures

pub returns : goal.returns
returns c =
    let p : Pair = record { key = chars c.args.key.now; entry = c.args.entry } in
    c.of.ensures ∙ ap (with_pair p) c.self.view_is
