use Rattle.std.proofs.Common.{length, ap, arith}
use Rattle.rg_trie.proofs.Stepping.{counts_end, counts_on, counts_part}
use Rattle.rg_trie.proofs.counting.count_under.Goals as goal

pub overflow_add-count : goal.overflow_add-count
overflow_add-count c = omega (arith, c.prefixes.invariant, c.run_of-count.ensures, ap length c.found-rest.ensures.same, counts_part c.args.tree.now c.prefixes.prefix.seen c.prefixes.prefix.rest, c.requires.fits)

pub returns-in-None : goal.returns-in-None
returns-in-None c = omega (arith, c.prefixes.invariant, c.run_of-count.ensures, ap length c.found-rest.ensures.same, counts_end c.args.tree.now c.prefixes.prefix.seen c.prefixes.prefix.rest c.in-None.ensures)

pub prefixes-preserved : goal.prefixes-preserved
prefixes-preserved c =
    let next = c.in-Some.ensures in
    omega (arith, c.prefixes.invariant, c.run_of-count.ensures, ap length c.found-rest.ensures.same, counts_on c.args.tree.now c.prefixes.prefix.seen c.prefixes.prefix.rest c.in-Some.longer.seen c.in-Some.longer.rest next.0 next.1 next.2)
