use Rattle.std.proofs.Common.{◌<◌, ◌∙◌, length, arith}
use Rattle.rg_base.proofs.Lists.{left_passes}
use Rattle.rg_policy_sets.proofs.Counting.{one_more, one_more_compiled, one_of}
use Rattle.rg_policy_sets.proofs.Rising.{placed_more}
use Rattle.rg_policy_sets.proofs.filling.compile_slots.Goals as goal

pub compile_slot-requires : goal.compile_slot-requires
compile_slot-requires g c =
    let items = c.args.items.now in
    let i = c.loop-place.place in
    let item = c.index-items-place.result in
    let within : i < length items = omega arith in
    (left_passes (g.C.Compile.passes c.args.compiler.now) i items item within c.index-items-place.is c.loop-place.invariant.left).0

pub returns-in_err-slot-clause-steps : goal.returns-in_err-slot-clause-steps
returns-in_err-slot-clause-steps g c =
    let items = c.args.items.now in
    let i = c.loop-place.place in
    let within : i < length items = omega arith in
    one_of g.C.Compile.cost items i c.index-items-place.result within c.args.steps.now c.loop-place.steps c.compile_slot.new.steps c.loop-place.invariant.counted c.compile_slot.ensures.steps

pub returns-in_err-push-clause-steps : goal.returns-in_err-push-clause-steps
returns-in_err-push-clause-steps g c =
    let items = c.args.items.now in
    let i = c.loop-place.place in
    let within : i < length items = omega arith in
    one_of g.C.Compile.cost items i c.index-items-place.result within c.args.steps.now c.loop-place.steps c.compile_slot.new.steps c.loop-place.invariant.counted c.compile_slot.ensures.steps

pub loop-place-preserved : goal.loop-place-preserved
loop-place-preserved g c =
    let items = c.args.items.now in
    let i = c.loop-place.place in
    let item = c.index-items-place.result in
    let within : i < length items = omega arith in
    record {
      so_far = c.in_ok-push.ensures.items
          ∙ placed_more (g.C.Compile.hold c.args.compiler.now) items c.loop-place.slots.items i item c.in_ok-slot.slot c.loop-place.invariant.so_far c.in_ok-slot.ensures.slot within c.index-items-place.is;
      counted = one_more g.C.Compile.cost items i item within c.args.steps.now c.loop-place.steps c.compile_slot.new.steps c.loop-place.invariant.counted c.compile_slot.ensures.steps;
      compiled = one_more_compiled g.C.Compile.cost items i item within c.args.steps.now c.loop-place.steps c.compile_slot.new.steps c.loop-place.invariant.compiled c.in_ok-slot.ensures.compiled;
      left = (left_passes (g.C.Compile.passes c.args.compiler.now) i items item within c.index-items-place.is c.loop-place.invariant.left).1;
    }
