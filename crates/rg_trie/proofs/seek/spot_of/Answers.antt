use Rattle.std.proofs.Common.{◌≡◌, ◌<◌, ◌≤◌, Bool, true, false, length, get_or, ap, sym, ◌∙◌, subst, take, drop}
use Rattle.std.proofs.lemmas.List.{get_or_default}
use Rattle.std.specs.List.{All}
use Rattle.rg_trie.specs.Pairs.{Below, folded}
use Rattle.std.specs.Str.{chars}
use Rattle.rg_trie.specs.Sought.{before}
use Rattle.rg_trie.specs.Blocks.{IsRising}
use Rattle.rg_trie.specs.Blocks.{block_pairs}
use Rattle.rg_trie.specs.declared.pair.Pair.{Pair}
use Rattle.rg_trie.proofs.Orders.{before_early}
use Rattle.rg_trie.proofs.Rise.{rising_block, stops_inside, fails_from}
use Rattle.rg_trie.proofs.seek.spot_of.Goals as goal

-- the pairs that are read are those of the block at that place
found : (c : goal.After-as_slice) → c.as_slice.result.now ≡ block_pairs (get_or c.args.blocks.now c.block_of-block.result c.index-blocks-block.result)
found c = c.as_slice.ensures.value ∙ ap (λ b. b.pairs.items) c.deref.ensures

pub place_of-place-requires : goal.place_of-place-requires
place_of-place-requires c =
    subst (IsRising Below) (sym (found c)) (rising_block Below (before (folded c.args.fold (chars c.args.text.now)) c.args.mark) (before_early _ _) block_pairs c.args.blocks.now c.block_of-block.result c.index-blocks-block.result c.if-block-blocks.true c.requires.ordered)

-- the same once they are searched
read : (c : goal.After-place_of-place) → c.as_slice.result.now ≡ block_pairs (get_or c.args.blocks.now c.block_of-block.result c.index-blocks-block.result)
read c = c.as_slice.ensures.value ∙ ap (λ b. b.pairs.items) c.deref.ensures

inside : (c : goal.After-place_of-place) → c.place_of-place.result < length (block_pairs (get_or c.args.blocks.now c.block_of-block.result c.index-blocks-block.result))
inside c =
    let test : Pair → Bool = before (folded c.args.fold (chars c.args.text.now)) c.args.mark in
    let d = c.index-blocks-block.result in
    let l = c.if-block-blocks.true in
    stops_inside Below test (before_early _ _) (block_pairs (get_or c.args.blocks.now c.block_of-block.result d)) c.place_of-place.result
    ((c.requires.sized c.block_of-block.result d l).filled) (c.block_of-block.ensures.stopped d l)
    (subst (λ xs. c.place_of-place.result ≤ length xs) (read c) c.place_of-place.ensures.bound)
    (subst (λ xs. All (λ p. test p ≡ true) (take c.place_of-place.result xs)) (read c) c.place_of-place.ensures.passed)

pub returns-then-block-blocks-clause-inside : goal.returns-then-block-blocks-clause-inside
returns-then-block-blocks-clause-inside c d l =
    subst (λ a. c.place_of-place.result < length (block_pairs a)) (get_or_default c.args.blocks.now c.block_of-block.result c.index-blocks-block.result d l) (inside c)

pub returns-then-block-blocks-clause-left : goal.returns-then-block-blocks-clause-left
returns-then-block-blocks-clause-left c =
    let test : Pair → Bool = before (folded c.args.fold (chars c.args.text.now)) c.args.mark in
    fails_from Below test (before_early _ _) block_pairs c.args.blocks.now c.block_of-block.result c.place_of-place.result c.index-blocks-block.result c.if-block-blocks.true c.requires.ordered (inside c)
    (subst (λ xs. All (λ p. test p ≡ false) (drop c.place_of-place.result xs)) (read c) c.place_of-place.ensures.left)
