use Rattle.std.proofs.Common.{◌≡◌, ◌++◌, true, false, length, ap, subst, arith}
use Rattle.std.proofs.lemmas.List.{length-append}
use Rattle.std.specs.List.{All}
use Rattle.rg_trie.specs.declared.order.Mark.TheVariants.{End}
use Rattle.rg_trie.specs.Blocks.{pairs_of}
use Rattle.rg_trie.specs.Hashed.{Parted}
use Rattle.rg_trie.specs.Sought.{before}
use Rattle.rg_trie.proofs.Keys.{run_counts}
use Rattle.rg_trie.proofs.counting.run_of.Goals as goal

pub returns : goal.returns
returns c =
    let passed = c.advance-rest.ensures.passed in
    let rest = c.advance-rest.result.back.now ++ pairs_of c.advance-rest.result.after.now in
    let same = ap (λ (p : Parted). p.seen) c.prefix.view_is in
    run_counts c.args.prefix.now.seen _ passed.0 rest _ (omega (arith, c.left_of.ensures, c.left_of-2.ensures, length-append passed.0 rest, ap length passed.1)) passed.1 c.requires.from.from
    (subst (λ k. All (λ q. before k End q ≡ true) passed.0) same passed.2)
    (subst (λ k. All (λ q. before k End q ≡ false) rest) same c.advance-rest.ensures.left)
