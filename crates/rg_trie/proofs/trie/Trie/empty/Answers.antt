use Rattle.std.proofs.Common.{sym, subst, List}
use Rattle.rg_trie.specs.declared.pair.Pair.{Pair}
use Rattle.rg_trie.specs.Hashed.{IsFiled}
use Rattle.rg_trie.proofs.Holding.{filed_none}
use Rattle.rg_trie.proofs.trie.Trie.empty.Goals as goal

pub invariant_of-result : goal.invariant_of-result
invariant_of-result c = subst (λ (ps : List Pair). IsFiled c.empty.result c.none.result.occurs 0 ps) (sym c.of.ensures) (filed_none _ _ c.empty.ensures)
