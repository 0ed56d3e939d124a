use Rattle.std.proofs.Common.{◌≤◌, ◌-◌, length, take, drop, subst, sym, ◌∙◌, arith, length-drop}
use Rattle.std.proofs.Math.Seq.{take-add}
use Rattle.std.proofs.lemmas.List.{take-append-drop, take_all}
use Rattle.rg_ports.specs.Bytes.{Took}
use Rattle.rg_http.specs.Answers.{Wrote}
use Rattle.rg_http.proofs.Written.{wrote_more, wrote_took}
use Rattle.rg_http.proofs.writing.write_whole.Goals as goal

pub returns-in-Err-clause-err : goal.returns-in-Err-clause-err
returns-in-Err-clause-err g c = (
  take c.loop-done.done c.args.bytes.now,
  (subst (λ k. Wrote (g.T.Link.held c.args.link.now) k (take c.loop-done.done c.args.bytes.now)) (sym c.in-Err.ensures.unwritten) c.loop-done.invariant.wrote),
  (drop c.loop-done.done c.args.bytes.now, take-append-drop c.loop-done.done c.args.bytes.now),
)

pub loop-done-preserved : goal.loop-done-preserved
loop-done-preserved g c =
    let i = c.loop-done.invariant in
    let all = c.args.bytes.now in
    let done = c.loop-done.done in
    let size = length-drop done all in
    let e = take_all (length all - done) (drop done all) (omega (arith, size)) in
    let within = subst (λ piece. c.in-Ok.n ≤ length piece) e c.in-Ok.ensures.within in
    let took = subst (Took (g.T.Link.held c.loop-done.link) (g.T.Link.held c.write.new.self) c.in-Ok.n) e c.in-Ok.ensures.took in
    record {
      within = omega (arith, within, size, i.within);
      wrote = subst (Wrote (g.T.Link.held c.args.link.now) (g.T.Link.held c.write.new.self)) (sym (take-add done c.in-Ok.n all))
          (wrote_more (g.T.Link.held c.args.link.now) (g.T.Link.held c.loop-done.link) (g.T.Link.held c.write.new.self) (take done all) (take c.in-Ok.n (drop done all)) i.wrote (wrote_took _ _ c.in-Ok.n (drop done all) took));
      faults = c.in-Ok.ensures.kept ∙ i.faults;
      left = c.write.ensures.unread.0 ∙ i.left;
      ended = c.write.ensures.unread.1 ∙ i.ended;
    }
