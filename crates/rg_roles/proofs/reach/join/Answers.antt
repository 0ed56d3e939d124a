use Rattle.std.proofs.Common.{◌<◌, length, take, get_or, option_map, sym, ap, ◌∙◌, subst, arith}
use Rattle.std.specs.Option.{IfSome}
use Rattle.std.proofs.lemmas.List.{take_all, take_more}
use Rattle.rg_roles.specs.Places.{IsKnown}
use Rattle.rg_roles.proofs.Reached.{AreGone, gone_known, gone_more}
use Rattle.rg_roles.proofs.reach.join.Goals as goal

pub loop-to-preserved : goal.loop-to-preserved
loop-to-preserved c =
    let chart = c.args.chart.now in
    let ms = c.at-to-items.result.now in
    let i = c.loop-to.to-index in
    let to = get_or ms i 0 in
    let within : i < length ms = omega arith in
    let known = subst (λ o. IfSome o (IsKnown chart to)) (sym c.get.ensures ∙ ap (option_map (λ s. s.now)) c.in-Some.is) (c.requires.known to) in (
      c.insert.ensures.len ∙ c.include.ensures.len ∙ c.loop-to.invariant.0,
      subst (λ xs. AreGone chart xs c.insert.new.words) (sym (take_more ms i 0 within))
          (gone_more chart (take i ms) to c.loop-to.words c.in-Some.further.now c.include.new.words c.insert.new.words c.loop-to.invariant.1 known.exact
          c.include.ensures.all c.insert.ensures.all),
    )

pub returns-clause-exact : goal.returns-clause-exact
returns-clause-exact c = λ e.
    let chart = c.args.chart.now in
    let words = c.loop-to.words in
    gone_known chart c.args.place words (subst (λ xs. AreGone chart xs words) (take_all c.loop-to.to-index c.at-to-items.result.now (omega arith) ∙ c.at-to-items.ensures) c.loop-to.invariant.1)
