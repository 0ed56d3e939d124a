use Rattle.std.proofs.Common.{subst}
use Rattle.rg_trie.specs.Blocks.{IsRising}
use Rattle.rg_trie.specs.Pairs.{Below}
use Rattle.rg_trie.proofs.Rise.{rises_at}
use Rattle.rg_trie.proofs.trie.Trie.law_of_order.Goals as goal

pub returns : goal.returns
returns c = rises_at Below c.args.self.now (subst (IsRising Below) c.self.view_is c.self.invariant.rising)
