-- What an answered grant and an answered revoke bring about.
use Rattle.std.proofs.Common.{◌≡◌, ℕ, false, List, Result, Ok, Err, IfOk, ap, sym, subst, ◌∙◌}
use Rattle.rg_cmd.specs.declared.ask.AdminReply.{AdminReply}
use Rattle.rg_validate.specs.Valid.{IsKept}
use Rattle.rg_admin_laws.specs.Laws.{is_refused}
use Rattle.rg_admin_laws.specs.Logs.{Administration}
use Rattle.rg_grant.specs.InForce.{IsInForce, IsRevoked}
use Rattle.rg_grant.specs.Steps.{granted}
use Rattle.rg_grant.specs.declared.ask.GrantAsk.{GrantAsk}
use Rattle.rg_grant.specs.declared.ask.GrantAsk.TheVariants.{Grant, Revoke}
use Rattle.rg_grant.specs.declared.row.GrantRow.{GrantRow}
use Rattle.rg_grant.proofs.InForce.{in_force}
use Rattle.rg_grant.proofs.Revoked.{revoked}

pub grant_answered : {E : Type 0} (r : Result AdminReply E) (before after : Administration) (ask : GrantAsk) → IfOk r (λ reply. (after, reply) ≡ granted before ask)
    → (actor : List ℕ) (g : GrantRow) → ask ≡ Grant actor g → IfOk r (λ reply. is_refused reply ≡ false → IsInForce g before after reply)
grant_answered (Ok reply) before after ask is actor g same = λ fine.
    let answer : (after, reply) ≡ granted before (Grant actor g) = is ∙ ap (granted before) same in
    subst (λ (d : Administration × AdminReply). IsInForce g before d.0 d.1) (sym answer)
    (in_force before actor g (sym (ap (λ (d : Administration × AdminReply). is_refused d.1) answer) ∙ fine))
grant_answered (Err e) before after ask is actor g same = tt

pub revoke_answered : {E : Type 0} (r : Result AdminReply E) (before after : Administration) (ask : GrantAsk) → IsKept before.state → IfOk r (λ reply. (after, reply) ≡ granted before ask)
    → (actor : List ℕ) (g : GrantRow) → ask ≡ Revoke actor g → IfOk r (λ reply. is_refused reply ≡ false → IsRevoked g before after reply)
revoke_answered (Ok reply) before after ask kept is actor g same = λ fine.
    let answer : (after, reply) ≡ granted before (Revoke actor g) = is ∙ ap (granted before) same in
    subst (λ (d : Administration × AdminReply). IsRevoked g before d.0 d.1) (sym answer)
    (revoked before actor g kept (sym (ap (λ (d : Administration × AdminReply). is_refused d.1) answer) ∙ fine))
revoke_answered (Err e) before after ask kept is actor g same = tt
