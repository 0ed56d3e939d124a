use Rattle.std.proofs.Common.{◌∙◌, ap, sym}
use Rattle.rg_turn.specs.Values.{SeatValue}
use Rattle.rg_cmd.specs.declared.ask.AdminReply.{AdminReply}
use Rattle.rg_cmd.specs.declared.ask.Ask.{Ask}
use Rattle.rg_admin_laws.specs.Logs.{Administration}
use Rattle.rg_run_replay.proofs.Holding.{only, opened_held, opened_is}
use Rattle.rg_run_replay.proofs.running.Running.opened.Goals as goal

pub knows-requires : goal.knows-requires
knows-requires g c =
    ap (λ (s : SeatValue Ask AdminReply Administration). s.turn) (only _ _ c.pop.new.self.items (sym c.in_ok-turn.ensures.seats ∙ c.in-Some.ensures.items))

pub invariant_of-result : goal.invariant_of-result
invariant_of-result g c =
    opened_held c.args.admin c.in_ok-turn.field-0.turn _ _ _ _ c.requires c.in_ok-turn.ensures.turn.0
    (only _ _ c.pop.new.self.items (sym c.in_ok-turn.ensures.seats ∙ c.in-Some.ensures.items))
    (c.knows.ensures.opening.1 ∙ c.in_ok-turn.ensures.turn.1)
    c.in_ok-turn.ensures.plugin.0 c.in_ok-turn.ensures.right
    (only _ _ c.pop-2.new.self.items (sym c.in_ok-turn.ensures.passes ∙ c.in-Some-pop.ensures.items))

pub returns : goal.returns
returns g c =
    opened_is c.args.admin c.in_ok-turn.field-0.turn _ _ _ c.in_ok-turn.ensures.turn.0
    (only _ _ c.pop.new.self.items (sym c.in_ok-turn.ensures.seats ∙ c.in-Some.ensures.items))
    c.in_ok-turn.ensures.plugin.0 c.in_ok-turn.ensures.list
