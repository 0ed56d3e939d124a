use Rattle.std.proofs.Common.{refl, subst}
use mathlib.Core.List.{IsPrefix}
use Rattle.rg_publish.proofs.Lists.{decided}
use Rattle.rg_publish.proofs.shown.Shown.is_before.Goals as goal

pub returns : goal.returns
returns c =
    let s = c.args.self.now in
    let o = c.args.other.now in
    let e = c.learn.ensures in
    decided _ s.known.log o.known.log c.learn.new.self.log s.serial o.serial refl s.long o.long (subst (λ t. IsPrefix t.log c.learn.new.self.log) c.again-both.ensures e.2) e.3
