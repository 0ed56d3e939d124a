use Rattle.std.proofs.Common.{◌++◌, sym, ap, ◌∙◌}
use Rattle.rg_trie.specs.Hashed.{entries_beyond}
use Rattle.rg_trie.proofs.Stepping.{goes_on, none_found}
use Rattle.rg_trie.proofs.walk.first_left.Goals as goal

pub prefixes-preserved : goal.prefixes-preserved
prefixes-preserved c =
    let next = c.in-Some-next.ensures in
    let later = c.in-Some-next.longer in
    let none = none_found _ _ _ c.in_default.is c.first_entry-step.ensures.found in (
      c.found-left.ensures.from,
      ap (λ xs. xs ++ entries_beyond c.args.tree.now later.seen later.rest) c.found-left.ensures.same
          ∙ sym (goes_on c.args.tree.now c.prefixes.prefix.seen c.prefixes.prefix.rest _ later.seen later.rest next.0 none.0 next.1 next.2) ∙ c.prefixes.invariant.1,
    )
