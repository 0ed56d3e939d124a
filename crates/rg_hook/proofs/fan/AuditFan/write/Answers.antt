use Rattle.std.proofs.Common.{drop, length, arith}
use Rattle.std.proofs.lemmas.List.{take_at}
use Rattle.rg_hook.proofs.fan.AuditFan.write.Goals as goal

pub returns : goal.returns
returns g c =
    let sinks = c.write_each.new.sinks in
    let e = take_at sinks (drop (length sinks) c.args.self.now.sinks.items) c.args.self.now.sinks.len (omega arith) in
    rw e (rw c.as_mut_slice.ensures.value at c.write_each.ensures.after)
