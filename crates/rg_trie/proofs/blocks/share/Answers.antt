use Rattle.std.proofs.Common.{◌≡◌, ◌+◌, arith, get_or, length, take, ap, ◌∙◌}
use Rattle.std.proofs.lemmas.List.{length-append}
use Rattle.std.specs.Arc.{arc_value}
use Rattle.rg_trie.specs.Blocks.{block_pairs, pairs_of, shared_pairs}
use Rattle.rg_trie.proofs.Shares.{pairs_more, pairs_within}
use Rattle.rg_trie.proofs.blocks.share.Goals as goal

pub add_block-requires-clause-enough : goal.add_block-requires-clause-enough
add_block-requires-clause-enough c =
    let i = c.loop-held.held-index in
    let d = c.held-item.result in
    let same : shared_pairs c.in-Ok.again ≡ block_pairs (get_or c.args.blocks.now i d) = ap (λ b. b.pairs.items) (c.in-Ok.ensures ∙ ap (λ h. arc_value h.block) c.held-item.is) in
    omega (
      arith,
      c.requires.enough,
      c.loop-held.invariant.fewer,
      pairs_within c.args.blocks.now (i + 1),
      ap length (pairs_more c.args.blocks.now i d c.loop-held-test.true),
      length-append (pairs_of (take i c.args.blocks.now)) (block_pairs (get_or c.args.blocks.now i d)),
      ap length same,
    )
