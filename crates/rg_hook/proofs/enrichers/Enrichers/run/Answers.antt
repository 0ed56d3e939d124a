use Rattle.std.proofs.Common.{drop, length, arith}
use Rattle.std.proofs.lemmas.List.{take_at}
use Rattle.rg_hook.proofs.enrichers.Enrichers.run.Goals as goal

pub returns-then-is_err-clause-ran : goal.returns-then-is_err-clause-ran
returns-then-is_err-clause-ran g c =
    let list = c.run_each-ran.new.list in
    let e = take_at list (drop (length list) c.args.self.now.list.items) c.args.self.now.list.len (omega arith) in
    rw e (rw c.as_mut_slice.ensures.value at c.run_each-ran.ensures.err)
