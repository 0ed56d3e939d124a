use Rattle.std.proofs.Common.{subst, arith}
use Rattle.std.proofs.lemmas.List.{get_or_read}
use Rattle.rg_roles.specs.Places.{IsGrown}
use Rattle.rg_roles.proofs.Walks.{walk_begins, walk_goes_on, walk_ends}
use Rattle.rg_roles.proofs.walk.walk.Goals as goal

pub loop-next-init : goal.loop-next-init
loop-next-init c =
    walk_begins c.args.chart.now c.args.from c.args.found.now.items c.visit_all.new.found.items c.visit_all.new.seen c.requires.none (omega arith)
    c.in_ok-visit_all.ensures.marked
    (subst (λ ps. IsGrown ps c.args.found.now.items c.visit_all.new.found.items) c.at.ensures c.in_ok-visit_all.ensures.grown)

pub loop-next-preserved : goal.loop-next-preserved
loop-next-preserved c =
    let new = c.visit_all-in-loop-next.new in
    walk_goes_on c.args.chart.now c.args.from c.loop-next.next c.index-place.result.now c.loop-next.found.items new.found.items c.loop-next.seen new.seen c.loop-next.invariant
    (omega arith) (get_or_read c.loop-next.found.items c.loop-next.next c.index-place.result.now (omega arith) c.index-place.ensures 0) (omega arith) c.in_ok-visit_all-2.ensures.marked
    (subst (λ ps. IsGrown ps c.loop-next.found.items new.found.items) c.at-in-loop-next.ensures c.in_ok-visit_all-2.ensures.grown)

pub returns : goal.returns
returns c = walk_ends c.args.chart.now c.args.from c.loop-next.next c.loop-next.found.items c.loop-next.seen c.loop-next.invariant (omega arith)
