use Rattle.std.proofs.Common.{refl, sym, ◌∙◌, subst, inl, inr}
use Rattle.rg_http.specs.declared.message.End.TheVariants.{Bad}
use Rattle.rg_http.specs.Answers.{IsRead, Wrote}
use Rattle.rg_link.specs.Answers.{end_text}
use Rattle.rg_link.proofs.Faults.{counts_as, refusal_code}
use Rattle.rg_link.proofs.Unwritten.{nothing_written, off_at_once}
use Rattle.rg_link.proofs.coming.next_message.Goals as goal

pub returns-in-Err-clause-comes : goal.returns-in-Err-clause-comes
returns-in-Err-clause-comes g c =
    let x = c.in-Err.ensures.answer in
    (x.0, x.1, off_at_once _ _ _ c.next.ensures.unwritten)

pub returns-in-Err-clause-faults : goal.returns-in-Err-clause-faults
returns-in-Err-clause-faults g c = counts_as c.in-Err.fault _ _ _ c.from.ensures c.in-Err.ensures.faults

pub returns-in-Message-clause-comes : goal.returns-in-Message-clause-comes
returns-in-Message-clause-comes g c =
    let x = rw c.in-Message.is at c.in-Ok.ensures.answer in
    (x.0, x.1, (x.3, c.in-Ok.ensures.live ∙ rw c.in-Message.is refl, c.next.ensures.unwritten))

pub returns-in-Ended-clause-comes : goal.returns-in-Ended-clause-comes
returns-in-Ended-clause-comes g c =
    let x = rw c.in-Ended.is at c.in-Ok.ensures.answer in
    let end = (rw c.in-Ended.is at c.in-Ok.ensures.end) refl in
    (x.0, x.1, (x.3.0, λ ms. inl end.0, nothing_written _ _ c.next.ensures.unwritten))

pub returns-in-Cut-clause-comes : goal.returns-in-Cut-clause-comes
returns-in-Cut-clause-comes g c =
    let x = rw c.in-Cut.is at c.in-Ok.ensures.answer in
    let end = (rw c.in-Cut.is at c.in-Ok.ensures.end) refl in
    (x.0, x.1, ((x.3.0, x.3.1), λ ms. end.0, nothing_written _ _ c.next.ensures.unwritten))

pub refuse-requires-after_bounds : goal.refuse-requires-after_bounds
refuse-requires-after_bounds g c = λ κs h. refusal_code c.in-Bad.status (rw c.in-Bad.is at c.in-Ok.ensures.status)

pub returns-in-Ok-refuse-clause-comes : goal.returns-in-Ok-refuse-clause-comes
returns-in-Ok-refuse-clause-comes g c =
    let x = rw c.in-Bad.is at c.in-Ok.ensures.answer in
    let r = subst (IsRead (g.T.Link.left c.args.link.now) x.0) (sym c.refuse.ensures.unread.0) x.1 in
    let w = subst (λ k. Wrote k (g.T.Link.held c.refuse.new.link) (end_text (Bad c.in-Bad.status))) c.next.ensures.unwritten c.in-Ok-refuse.ensures.ok in
    (x.0, r, (x.3.0, λ ms. tt {0}, w))

pub returns-in-Err-refuse-clause-comes : goal.returns-in-Err-refuse-clause-comes
returns-in-Err-refuse-clause-comes g c =
    let x = rw c.in-Bad.is at c.in-Ok.ensures.answer in
    let r = subst (IsRead (g.T.Link.left c.args.link.now) x.0) (sym c.refuse.ensures.unread.0) x.1 in
    let y = c.in-Err-refuse.ensures.err in
    let w = subst (λ k. Wrote k (g.T.Link.held c.refuse.new.link) y.0) c.next.ensures.unwritten y.1 in
    (x.0, r, (end_text (Bad c.in-Bad.status), y.0, inr (c.in-Bad.status, refl, refl, x.3.0), w, y.2))
