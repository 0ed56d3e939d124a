use Rattle.std.proofs.Common.{sym, subst}
use Rattle.std.proofs.lemmas.Result.{IfOk-weaker}
use Rattle.rg_trie.specs.declared.pair.Pair.{Pair}
use Rattle.rg_trie.specs.Edited.{Takes}
use Rattle.rg_trie.proofs.Sets.{takes}
use Rattle.std.specs.Str.{chars}
use Rattle.rg_trie.proofs.trie.Trie.remove.Goals as goal

pub returns-clause-holds : goal.returns-clause-holds
returns-clause-holds g c =
    let p : Pair = record { key = chars c.args.key.now; entry = c.args.entry } in
    IfOk-weaker c.without.result _ _ (λ t e. subst (Takes p c.args.self.now) (sym e) (takes p c.args.self.now)) c.without.ensures
