use Rattle.std.proofs.Common.{◌∙◌, sym}
use Rattle.rg_serve.proofs.Opening.{many, opened_held, opened_is}
use Rattle.rg_serve.proofs.opened.Opened.over.Goals as goal

pub invariant_of-result : goal.invariant_of-result
invariant_of-result g c =
    opened_held c.args.workers c.args.admin c.in_ok-turn.field-0.turn _ c.pop.new.self.items c.in_ok-turn.ensures.turn.0
    (sym c.in-Some.ensures.items ∙ c.in_ok-turn.ensures.seats) _ _ _ _ c.requires.start c.requires.workers c.in_ok-turn.ensures.turn.1
    c.in_ok-turn.ensures.plugin.0 c.in_ok-turn.ensures.right c.downloaded_lists_stay.ensures.first _ c.in_ok-turn.ensures.list.2 (sym c.in-Some-pop.ensures.items ∙ c.in_ok-turn.ensures.passes)

pub returns-clause-opened : goal.returns-clause-opened
returns-clause-opened g c =
    opened_is c.args.workers c.args.admin c.in_ok-turn.field-0.turn _ c.pop.new.self.items c.in_ok-turn.ensures.turn.0
    (sym c.in-Some.ensures.items ∙ c.in_ok-turn.ensures.seats) _ c.in_ok-turn.ensures.list

pub returns-clause-workers : goal.returns-clause-workers
returns-clause-workers g c =
    many c.args.workers c.args.admin c.in_ok-turn.field-0.turn _ c.pop.new.self.items c.in_ok-turn.ensures.turn.0
    (sym c.in-Some.ensures.items ∙ c.in_ok-turn.ensures.seats)
