use Rattle.std.proofs.Common.{length, ap, ◌∙◌, arith}
use Rattle.std.specs.Str.{chars}
use Rattle.rg_trie.specs.Pairs.{folded}
use Rattle.rg_trie.specs.Walked.{entries_under}
use Rattle.rg_trie.proofs.Holding.{walked, walked_fits}
use Rattle.rg_trie.proofs.trie.Trie.count.Goals as goal

pub count_under-requires-clause-fits : goal.count_under-requires-clause-fits
count_under-requires-clause-fits c = omega (arith, walked_fits _ _ _ _ c.self.invariant (folded c.args.fold (chars c.args.value.now)), ap length c.self.view_is, c.most-most.ensures, c.most-most.type_inv)

pub returns : goal.returns
returns c =
    let text = folded c.args.fold (chars c.args.value.now) in
    c.count_under.ensures ∙ ap length (walked _ _ _ _ c.self.invariant text ∙ ap (entries_under text) c.self.view_is)
