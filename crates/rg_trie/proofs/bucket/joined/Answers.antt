use Rattle.std.proofs.Common.{◌++◌, arith, ◌∙◌}
use Rattle.std.proofs.lemmas.List.{length-append}
use Rattle.rg_trie.specs.Blocks.{pairs_of}
use Rattle.rg_trie.proofs.Shares.{grown_in_order, grown_pairs, grows_on}
use Rattle.rg_trie.proofs.bucket.joined.Goals as goal

pub share-requires-clause-enough : goal.share-requires-clause-enough
share-requires-clause-enough c = omega (arith, c.requires.total, c.in_ok-growing.ensures.1, length-append (pairs_of c.args.before.now ++ c.args.middle.items) (pairs_of c.args.after.now), length-append (pairs_of c.args.before.now) c.args.middle.items)

pub add_pairs-requires-clause-enough : goal.add_pairs-requires-clause-enough
add_pairs-requires-clause-enough c = omega (arith, c.requires.total, c.in_ok-growing.ensures.1, c.in_ok-share.ensures.fewer, length-append (pairs_of c.args.before.now ++ c.args.middle.items) (pairs_of c.args.after.now), length-append (pairs_of c.args.before.now) c.args.middle.items)

pub share-requires-2-clause-enough : goal.share-requires-2-clause-enough
share-requires-2-clause-enough c = omega (arith, c.requires.total, c.in_ok-growing.ensures.1, c.in_ok-share.ensures.fewer, c.in_ok-add_pairs.ensures.fewer, length-append (pairs_of c.args.before.now ++ c.args.middle.items) (pairs_of c.args.after.now), length-append (pairs_of c.args.before.now) c.args.middle.items)

pub invariant_of-result : goal.invariant_of-result
invariant_of-result c =
    let whole = grows_on _ _ _ _ _ (grows_on _ _ _ _ _ c.in_ok-share.ensures c.in_ok-add_pairs.ensures) c.in_ok-share-2.ensures in
    grown_in_order _ _ _ c.in_ok-growing.ensures.0 (c.in_ok-growing.ensures.1 ∙ c.requires.total) whole c.requires.rising

pub returns : goal.returns
returns c =
    let whole = grows_on _ _ _ _ _ (grows_on _ _ _ _ _ c.in_ok-share.ensures c.in_ok-add_pairs.ensures) c.in_ok-share-2.ensures in
    grown_pairs _ _ _ c.in_ok-growing.ensures.0 whole
