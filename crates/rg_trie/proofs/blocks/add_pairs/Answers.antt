use Rattle.std.proofs.Common.{◌++◌, ◌∙◌, subst}
use Rattle.std.proofs.lemmas.List.{take-append-drop}
use Rattle.rg_trie.specs.Blocks.{Grows}
use Rattle.rg_trie.proofs.Shares.{grows_on}
use Rattle.rg_trie.proofs.blocks.add_pairs.Goals as goal

pub returns : goal.returns
returns c =
    let whole = (λ j. c.in-Ok.ensures.items j ++ c.in-Ok.ensures.tail j) ∙ take-append-drop 32 c.args.pairs.items in
    subst (λ xs. Grows xs c.args.growing.now c.add_new-3.new.growing) whole (grows_on _ _ _ _ _ c.in_ok-add_new.ensures c.in_ok-add_new-2.ensures)
