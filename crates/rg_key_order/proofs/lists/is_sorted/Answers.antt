use Rattle.std.proofs.Common.{ap₂, sym, ◌∙◌, arith}
use Rattle.std.specs.Cmp.Lexicographic.{slice_cmp}
use Rattle.std.specs.Ordering.{nat_cmp}
use Rattle.std.specs.Str.{encode_utf8_all}
use Rattle.rg_key_order.proofs.Order.{order_ends, order_steps}
use Rattle.rg_key_order.proofs.lists.is_sorted.Goals as goal

pub loop-place-preserved : goal.loop-place-preserved
loop-place-preserved g c = λ rest. c.loop-place.invariant (
    order_steps g.T.Named.named c.args.items.now c.loop-place.place c.index-items-place.result c.index-items-place-in-loop-place.result (omega arith) (omega arith) c.index-items-place.is c.index-items-place-in-loop-place.is
    (ap₂ (λ s t. slice_cmp nat_cmp (encode_utf8_all s) (encode_utf8_all t)) (sym c.name.ensures) (sym c.name-in-loop-place.ensures) ∙ c.is_before.ensures c.if-not-is_before.false)
    rest)

pub returns : goal.returns
returns g c = λ _. c.loop-place.invariant (order_ends g.T.Named.named c.args.items.now c.loop-place.place (omega arith))
