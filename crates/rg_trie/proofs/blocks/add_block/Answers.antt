use Rattle.std.proofs.Common.{refl, ap, ◌∙◌, arith, length}
use Rattle.rg_trie.proofs.Shares.{grows_by}
use Rattle.rg_trie.proofs.blocks.add_block.Goals as goal

pub returns : goal.returns
returns c = grows_by _ _ (record { block = c.args.block; left = c.args.growing.now.lacking }) c.in-Ok.ensures.items refl
    (omega (arith, c.requires.enough, ap length (c.as_slice-pairs.ensures.value ∙ ap (λ b. b.pairs.items) c.deref.ensures))) c.requires.sized
