use Rattle.std.proofs.Common.{arith, ap, ◌∙◌}
use Rattle.rg_trie.proofs.Walks.{opens}
use Rattle.rg_trie.proofs.walk.opened.Goals as goal

pub returns-in-Some-clause-walking : goal.returns-in-Some-clause-walking
returns-in-Some-clause-walking c = opens _ _ c.in-Some.held.now _ _ (grind arith) c.in-Some.ensures.cases.0 (c.as_slice.ensures.value ∙ ap (λ b. b.pairs.items) c.deref.ensures) c.requires
