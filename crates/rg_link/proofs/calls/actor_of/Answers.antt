use Rattle.std.proofs.Common.{◌≡◌, subst, sym, ap, ◌∙◌, IfOk}
use Rattle.std.specs.Str.{IsUtf8, chars}
use Rattle.rg_link.proofs.Actors.{actor_read, actor_unread}
use Rattle.rg_link.proofs.calls.actor_of.Goals as goal

pub returns-in-Ok : goal.returns-in-Ok
returns-in-Ok c =
    let given = c.args.message.now.user in
    let user = c.in-Some.user in
    let read = c.in-Ok.ensures.cases in
    let u : IsUtf8 user.items = subst IsUtf8 c.as_slice.ensures read.1 in
    subst (λ a. IfOk c.copy_of.result (λ t. t ≡ a)) (ap chars (read.0 ∙ c.as_slice.ensures) ∙ actor_read given user c.in-Some.is u) c.copy_of.ensures

pub returns-in-Err : goal.returns-in-Err
returns-in-Err c =
    c.empty-in-Err.ensures ∙ actor_unread c.args.message.now.user c.in-Some.user c.in-Some.is (λ u. c.in-Err.ensures.cases.0 (subst IsUtf8 (sym c.as_slice.ensures) u))
