use Rattle.std.proofs.Common.{ap, ◌∙◌, subst}
use Rattle.rg_trie.specs.Blocks.{IsRising}
use Rattle.rg_trie.specs.Pairs.{Below, folded}
use Rattle.std.specs.Str.{chars}
use Rattle.rg_trie.specs.Walked.{entries_under}
use Rattle.rg_trie.proofs.Holding.{walked}
use Rattle.rg_trie.proofs.Prefixes.{under_in_order}
use Rattle.rg_trie.proofs.trie.Trie.walk.Goals as goal

pub returns-clause-given : goal.returns-clause-given
returns-clause-given c =
    let text = folded c.args.fold (chars c.args.value.now) in
    c.over.ensures ∙ walked _ _ _ _ c.self.invariant text ∙ ap (entries_under text) c.self.view_is

pub returns-clause-ordered : goal.returns-clause-ordered
returns-clause-ordered c = under_in_order (folded c.args.fold (chars c.args.value.now)) c.args.self.now (subst (IsRising Below) c.self.view_is c.self.invariant.rising)
