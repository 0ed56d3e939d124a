use Rattle.std.proofs.Common.{◌≡◌, ◌+◌, ◌-◌, Ok, take, drop, ap, ◌∙◌, arith}
use Rattle.rg_base.specs.Listed.{listed}
use Rattle.rg_client.proofs.Telling.{finished_short, finished_whole}
use Rattle.rg_client.proofs.reading.finish_reply.Goals as goal

pub returns-then-not-branch-clause-answer : goal.returns-then-not-branch-clause-answer
returns-then-not-branch-clause-answer g c =
    finished_short _ _ _ _ _ c.requires c.fill_to.ensures.fills (c.in_ok-fill_to.ensures.end (ap Ok c.if-not-branch.true)).1

pub returns-clause-answer : goal.returns-clause-answer
returns-clause-answer g c =
    let new = c.fill_to.new.self in
    let b = c.args.begun in
    let size : b.len + b.body - b.len ≡ b.body = omega arith in
    let body : c.in_ok-body.body ≡ listed (take b.body (drop b.len new)) =
    c.in_ok-body.ensures ∙ (ap (λ xs. listed (take (b.len + b.body - b.len) (drop b.len xs))) c.bytes.ensures ∙ ap (λ k. listed (take k (drop b.len new))) size) in
    rw (body, c.remove_front.ensures)
    (finished_whole (g.T.Link.left c.args.link.now) (g.T.Link.left c.fill_to.new.link) c.args.inbox.now new b c.requires c.fill_to.ensures.fills (c.in_ok-fill_to.ensures.came (ap Ok c.if-not-branch.false)))
