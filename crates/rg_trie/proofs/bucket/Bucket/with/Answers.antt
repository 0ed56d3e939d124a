use Rattle.std.proofs.Common.{◌++◌, sym, ap, ◌∙◌, subst}
use Rattle.std.proofs.lemmas.Result.{IfOk-weaker}
use Rattle.rg_trie.specs.Blocks.{IsRising, pairs_of}
use Rattle.rg_trie.specs.Pairs.{Below}
use Rattle.rg_trie.proofs.Edits.{inserts, inserts_none, inserts_rising}
use Rattle.rg_trie.proofs.bucket.Bucket.with.Goals as goal

pub returns-then-is_first : goal.returns-then-is_first
returns-then-is_first c = IfOk-weaker c.shared.result _ _ (λ t e. e ∙ sym (inserts_none c.cut-cut.ensures (sym c.if-is_first.ensures))) c.shared.ensures

pub joined-requires-clause-rising : goal.joined-requires-clause-rising
joined-requires-clause-rising c =
    let cut = c.cut-cut.result in
    subst (λ xs. IsRising Below ((pairs_of cut.before.now ++ xs) ++ pairs_of cut.after.now)) (sym c.in_ok-middle.ensures) (inserts_rising c.cut-cut.ensures (sym c.if-is_first.ensures))

pub returns : goal.returns
returns c =
    let cut = c.cut-cut.result in
    let made = ap (λ xs. (pairs_of cut.before.now ++ xs) ++ pairs_of cut.after.now) c.in_ok-middle.ensures in
    IfOk-weaker c.joined.result _ _ (λ t e. e ∙ made ∙ sym (inserts c.cut-cut.ensures (sym c.if-is_first.ensures))) c.joined.ensures
