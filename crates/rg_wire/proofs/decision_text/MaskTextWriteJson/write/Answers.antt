use Rattle.std.proofs.Common.{sym, subst}
use Rattle.rg_wire.specs.Tokens.{Adds}
use Rattle.rg_wire.proofs.Tokens.{and_then, mask_tokens}
use Rattle.rg_wire.proofs.decision_text.MaskTextWriteJson.write.Goals as goal

pub returns : goal.returns
returns c =
    subst (Adds c.args.out.now _) (sym (mask_tokens c.args.self.now))
    (and_then c.in_ok-begin.ensures (and_then c.in_ok-member.ensures (and_then c.in_ok-member-2.ensures c.in_ok-end.ensures)))
