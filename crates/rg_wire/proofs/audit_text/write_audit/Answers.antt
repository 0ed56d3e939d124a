use Rattle.std.proofs.Common.{sym, subst}
use Rattle.std.specs.Str.{chars}
use Rattle.rg_wire.specs.Tokens.{Adds}
use Rattle.rg_wire.proofs.Tokens.{and_then, audit_tokens}
use Rattle.rg_wire.proofs.audit_text.write_audit.Goals as goal

pub returns : goal.returns
returns c =
    subst (Adds c.args.out.now _) (sym (audit_tokens (chars c.args.service.now) c.args.request.now c.args.decision.now))
    (and_then c.in_ok-begin.ensures (and_then c.in_ok-member.ensures (and_then c.in_ok-member-2.ensures (and_then c.in_ok-member-3.ensures (and_then c.in_ok-text_member.ensures (and_then c.in_ok-member-4.ensures (and_then c.in_ok-member-5.ensures (and_then c.in_ok-member-6.ensures (and_then c.in_ok-member-7.ensures c.in_ok-end.ensures)))))))))
