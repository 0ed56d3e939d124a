use Rattle.std.proofs.Common.{◌++◌, sym, ap, ◌∙◌, subst}
use Rattle.std.proofs.lemmas.Result.{IfOk-weaker}
use Rattle.rg_trie.specs.Blocks.{IsRising, pairs_of}
use Rattle.rg_trie.specs.Pairs.{Below}
use Rattle.rg_trie.proofs.Edits.{removes, removes_none, removes_rising}
use Rattle.rg_trie.proofs.bucket.Bucket.without.Goals as goal

pub returns-then-not-is_first : goal.returns-then-not-is_first
returns-then-not-is_first c = IfOk-weaker c.shared.result _ _ (λ t e. e ∙ sym (removes_none c.cut-cut.ensures (sym c.if-not-is_first.ensures))) c.shared.ensures

pub joined-requires-clause-rising : goal.joined-requires-clause-rising
joined-requires-clause-rising c =
    let cut = c.cut-cut.result in
    let made = c.in_ok-middle.ensures ∙ ap (λ xs. cut.front.now ++ xs) c.all_but_first.ensures in
    subst (λ xs. IsRising Below ((pairs_of cut.before.now ++ xs) ++ pairs_of cut.after.now)) (sym made) (removes_rising c.cut-cut.ensures (sym c.if-not-is_first.ensures))

pub returns : goal.returns
returns c =
    let cut = c.cut-cut.result in
    let made = c.in_ok-middle.ensures ∙ ap (λ xs. cut.front.now ++ xs) c.all_but_first.ensures in
    IfOk-weaker c.joined.result _ _ (λ t e. e ∙ ap (λ xs. (pairs_of cut.before.now ++ xs) ++ pairs_of cut.after.now) made ∙ sym (removes c.cut-cut.ensures (sym c.if-not-is_first.ensures))) c.joined.ensures
