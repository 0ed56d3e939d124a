use Rattle.std.proofs.Common.{sym, subst}
use mathlib.Core.List.{IsPrefix}
use Rattle.rg_publish.specs.Passes.{Seeing}
use Rattle.rg_publish.proofs.Entering.{entered_begins}
use Rattle.rg_publish.proofs.pass.Pass.decide.Goals as goal

pub returns-clause-begins : goal.returns-clause-begins
returns-clause-begins g c = subst (λ (s : Seeing). IsPrefix c.args.self.now.list s.list) (sym c.self.view_is) (entered_begins c.args.self.now _ c.enter-entered.new.self c.enter-entered.ensures.entered)

pub returns-in_err-decision-clause-begins : goal.returns-in_err-decision-clause-begins
returns-in_err-decision-clause-begins g c = entered_begins c.args.self.now _ c.enter-entered.new.self c.enter-entered.ensures.entered
