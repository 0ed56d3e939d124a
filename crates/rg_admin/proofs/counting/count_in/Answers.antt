use Rattle.std.proofs.Common.{Option, OnOk, sym, subst, arith}
use Rattle.rg_same_resources.specs.declared.prints.Prints.{Prints}
use Rattle.rg_admin.specs.Counting.{IsCountedIn}
use Rattle.rg_admin.proofs.counting.count_in.Goals as goal

pub returns-in-Some-clause-ok : goal.returns-in-Some-clause-ok
returns-in-Some-clause-ok c = subst (λ (o : Option Prints). OnOk c.add.result (IsCountedIn o c.args.counts.now c.add.new.self)) (sym c.in-Some.is) c.add.ensures.ok

pub returns-in-None-clause-ok : goal.returns-in-None-clause-ok
returns-in-None-clause-ok c = subst (λ (o : Option Prints). IsCountedIn o c.args.counts.now c.args.counts.now) (sym c.in-None.is) (λ k. omega arith)
