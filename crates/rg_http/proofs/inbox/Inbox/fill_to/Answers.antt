use Rattle.std.proofs.Common.{◌<◌, length, arith, rules, ◌∙◌}
use Rattle.rg_http.proofs.Sparing.{fills_more, took_short}
use Rattle.rg_http.proofs.inbox.Inbox.fill_to.Goals as goal

pub returns-in_err-take_piece-clause-fills : goal.returns-in_err-take_piece-clause-fills
returns-in_err-take_piece-clause-fills g c = fills_more _ _ _ _ _ _ _ c.loop-self.invariant.fills (search rules) c.take_piece.ensures.took

pub loop-self-preserved : goal.loop-self-preserved
loop-self-preserved g c =
    let x = c.in_ok-take_piece.ensures in
    let i = c.loop-self.invariant in
    let few : length c.loop-self.self < c.args.need = search rules in
    record {
      fills = fills_more _ _ _ _ _ _ _ i.fills few x.took;
      bounded = omega (arith, took_short _ _ _ _ x.took, few, i.bounded);
      faults = x.faults ∙ i.faults;
      unwritten = x.unwritten ∙ i.unwritten;
    }
