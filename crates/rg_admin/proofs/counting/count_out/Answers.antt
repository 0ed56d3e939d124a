use Rattle.std.proofs.Common.{Option, sym, subst, arith}
use Rattle.rg_same_resources.specs.declared.prints.Prints.{Prints}
use Rattle.rg_admin.specs.Counting.{IsCountedOut}
use Rattle.rg_admin.proofs.counting.count_out.Goals as goal

pub returns-in-Some : goal.returns-in-Some
returns-in-Some c = subst (λ (o : Option Prints). IsCountedOut o c.args.counts.now c.remove.new.self) (sym c.in-Some.is) c.remove.ensures

pub returns-in-None : goal.returns-in-None
returns-in-None c = subst (λ (o : Option Prints). IsCountedOut o c.args.counts.now c.args.counts.now) (sym c.in-None.is) (λ k. omega arith)
