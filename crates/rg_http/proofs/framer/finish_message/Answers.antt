use Rattle.std.proofs.Common.{◌≡◌, ◌+◌, ◌-◌, Ok, take, drop, ap, ◌∙◌, arith}
use Rattle.rg_base.specs.Listed.{listed}
use Rattle.rg_http.proofs.Sparing.{finished_cut, finished_fault, finished_refused, finished_whole}
use Rattle.rg_http.proofs.framer.finish_message.Goals as goal

pub returns-in-Err-clause-answer : goal.returns-in-Err-clause-answer
returns-in-Err-clause-answer g c = finished_fault _ _ _ _ _ _ _ c.requires c.fill_to.ensures.fills c.in-Err.fault c.in-Err.ensures.short

pub returns-then-not-whole-clause-answer : goal.returns-then-not-whole-clause-answer
returns-then-not-whole-clause-answer g c =
    finished_cut _ _ _ _ _ _ _ c.requires c.fill_to.ensures.fills (c.in-Ok.ensures.end (ap Ok c.if-not-whole.true)).1

pub returns-in-Err-bytes_of-clause-answer : goal.returns-in-Err-bytes_of-clause-answer
returns-in-Err-bytes_of-clause-answer g c = finished_refused _ _ _ _ _ _ _ c.requires c.fill_to.ensures.fills

pub returns-clause-answer : goal.returns-clause-answer
returns-clause-answer g c =
    let new = c.fill_to.new.self in
    let m = c.args.message in
    let size : c.args.len + c.args.n - c.args.len ≡ c.args.n = omega arith in
    let body : c.in-Ok-bytes_of.body ≡ listed (take c.args.n (drop c.args.len new)) =
    c.in-Ok-bytes_of.ensures ∙ (ap (λ xs. listed (take (c.args.len + c.args.n - c.args.len) (drop c.args.len xs))) c.bytes.ensures ∙ ap (λ k. listed (take k (drop c.args.len new))) size) in
    rw (body, c.remove_front.ensures)
    (finished_whole (g.T.Link.left c.args.link.now) (g.T.Link.left c.fill_to.new.link) c.args.inbox.now new m c.args.len c.args.n c.requires c.fill_to.ensures.fills (c.in-Ok.ensures.came (ap Ok c.if-not-whole.false)))
