use Rattle.std.proofs.Common.{sym, subst}
use Rattle.std.proofs.lemmas.Result.{IfOk-weaker}
use Rattle.rg_trie.specs.declared.pair.Pair.{Pair}
use Rattle.rg_trie.specs.Edited.{Adds}
use Rattle.rg_trie.proofs.Sets.{adds}
use Rattle.std.specs.Str.{chars}
use Rattle.rg_trie.proofs.trie.Trie.insert.Goals as goal

pub returns-clause-holds : goal.returns-clause-holds
returns-clause-holds g c =
    let p : Pair = record { key = chars c.args.key.now; entry = c.args.entry } in
    IfOk-weaker c.with.result _ _ (λ t e. subst (Adds p c.args.self.now) (sym e) (adds p c.args.self.now)) c.with.ensures
