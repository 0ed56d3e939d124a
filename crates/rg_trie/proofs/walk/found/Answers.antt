use Rattle.std.proofs.Common.{length, sym, ◌∙◌}
use Rattle.rg_trie.proofs.Stepping.{found_none, found_some, from_nothing, nothing_fits, nothing_found}
use Rattle.rg_trie.proofs.walk.found.Goals as goal

pub returns-then-not-may_occur-clause-from : goal.returns-then-not-may_occur-clause-from
returns-then-not-may_occur-clause-from c = from_nothing c.args.prefix.now.seen _ _ c.nothing.ensures.back c.nothing.ensures.after

pub returns-then-not-may_occur-clause-fits : goal.returns-then-not-may_occur-clause-fits
returns-then-not-may_occur-clause-fits c = nothing_fits _ _ c.nothing.ensures.back c.nothing.ensures.after

pub returns-then-not-may_occur-clause-same : goal.returns-then-not-may_occur-clause-same
returns-then-not-may_occur-clause-same c =
    let seen = c.args.prefix.now.seen in
    nothing_found seen _ _ c.nothing.ensures.back c.nothing.ensures.after
    ∙ sym (c.requires seen (sym (c.if-not-may_occur.ensures (length seen) c.count.ensures)))

pub returns-in-None-clause-from : goal.returns-in-None-clause-from
returns-in-None-clause-from c = from_nothing c.args.prefix.now.seen _ _ c.nothing-in-None.ensures.back c.nothing-in-None.ensures.after

pub returns-in-None-clause-fits : goal.returns-in-None-clause-fits
returns-in-None-clause-fits c = nothing_fits _ _ c.nothing-in-None.ensures.back c.nothing-in-None.ensures.after

pub returns-in-None-clause-same : goal.returns-in-None-clause-same
returns-in-None-clause-same c =
    let seen = c.args.prefix.now.seen in
    nothing_found seen _ _ c.nothing-in-None.ensures.back c.nothing-in-None.ensures.after ∙ sym (found_none c.args.tree.now seen c.hash.result c.hash.ensures c.in-None.ensures)

pub returns-in-Some-clause-same : goal.returns-in-Some-clause-same
returns-in-Some-clause-same c = c.from_key.ensures.same ∙ found_some c.args.tree.now c.args.prefix.now.seen c.hash.result c.in-Some.bucket.now c.hash.ensures c.in-Some.ensures
