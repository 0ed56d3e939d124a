use Rattle.std.proofs.Common.{sym, subst}
use Rattle.rg_wire.specs.Tokens.{Adds}
use Rattle.rg_wire.proofs.Tokens.{and_then, decision_tokens}
use Rattle.rg_wire.proofs.decision_text.DecisionWriteJson.write.Goals as goal

pub returns : goal.returns
returns c =
    subst (Adds c.args.out.now _) (sym (decision_tokens c.args.self.now))
    (and_then c.in_ok-begin.ensures (and_then c.in_ok-member.ensures (and_then c.in_ok-member-2.ensures (and_then c.in_ok-member-3.ensures (and_then c.in_ok-member-4.ensures (and_then c.in_ok-member-5.ensures (and_then c.in_ok-member-6.ensures (and_then c.in_ok-member-7.ensures (and_then c.in_ok-member-8.ensures c.in_ok-end.ensures)))))))))
