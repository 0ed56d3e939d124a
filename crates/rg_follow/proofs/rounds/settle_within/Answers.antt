use Rattle.std.proofs.Common.{[], ◌∷◌, ◌++◌, refl, sym, ◌∙◌, subst, arith, length-append}
use Rattle.rg_follow.specs.Following.{Moves}
use Rattle.rg_follow.proofs.Moving.{asked_more, moves_more, settles_there, strays, unasked}
use Rattle.rg_follow.proofs.rounds.settle_within.Goals as goal

pub loop-left-init : goal.loop-left-init
loop-left-init g c = ([], refl, refl, omega arith)

pub returns-then-is_unchanged-clause-settled : goal.returns-then-is_unchanged-clause-settled
returns-then-is_unchanged-clause-settled g c =
    let i = c.loop-left.invariant in (
      i.0 ++ c.in-Ok.download ∷ [],
      asked_more c.args.had c.loop-left.facts i.0 c.in-Ok.download
          _ c.args.remote.now c.loop-left.remote c.ask.new.remote i.1 i.2 c.known_of.ensures c.in-Ok.ensures.asked,
      settles_there c.args.had c.loop-left.facts i.0 c.in-Ok.download i.2 (sym c.is_unchanged.ensures ∙ c.if-is_unchanged.true),
    )

pub returns-in-Err-take-clause-strayed : goal.returns-in-Err-take-clause-strayed
returns-in-Err-take-clause-strayed g c =
    let i = c.loop-left.invariant in
    let asked = asked_more c.args.had c.loop-left.facts i.0 c.in-Ok.download
    _ c.args.remote.now c.loop-left.remote c.ask.new.remote i.1 i.2 c.known_of.ensures c.in-Ok.ensures.asked in
    strays _ c.args.had c.loop-left.facts i.0 c.in-Ok.download
    c.in-Err-take.fault c.args.remote.now c.ask.new.remote asked i.2 (sym c.is_unchanged.ensures ∙ c.if-is_unchanged.false)
    c.in-Err-take.ensures.fault

pub returns-in-Err-clause-strayed : goal.returns-in-Err-clause-strayed
returns-in-Err-clause-strayed g c =
    let i = c.loop-left.invariant in
    unasked c.args.most c.args.had c.loop-left.facts i.0 _ c.in-Err.fault c.args.remote.now c.loop-left.remote c.ask.new.remote i.1 i.2 c.known_of.ensures c.in-Err.ensures.unasked

pub loop-left-preserved : goal.loop-left-preserved
loop-left-preserved g c =
    let i = c.loop-left.invariant in
    let all = i.0 ++ c.in-Ok.download ∷ [] in (
      all,
      asked_more c.args.had c.loop-left.facts i.0 c.in-Ok.download
          _ c.args.remote.now c.loop-left.remote c.ask.new.remote i.1 i.2 c.known_of.ensures c.in-Ok.ensures.asked,
      subst (Moves c.args.had all) (sym c.in-Ok-take.ensures.taken.0)
          (moves_more c.args.had c.loop-left.facts i.0 c.in-Ok.download i.2 (sym c.is_unchanged.ensures ∙ c.if-is_unchanged.false) c.in-Ok-take.ensures.taken.1),
      omega (arith, length-append i.0 (c.in-Ok.download ∷ []), i.3, c.loop-left-test.true),
    )

pub returns-clause-strayed : goal.returns-clause-strayed
returns-clause-strayed g c =
    let i = c.loop-left.invariant in
    (i.0, c.loop-left.facts, i.1, i.2, omega (arith, i.3, c.loop-left-test.false))
