use Rattle.std.proofs.Common.{ap, ◌∙◌, subst}
use mathlib.Core.List.{IsPrefix}
use Rattle.rg_publish.specs.Passes.{Seeing, risen}
use Rattle.rg_publish.proofs.pass.Pass.enter.Goals as goal

pub returns-clause-entered : goal.returns-clause-entered
returns-clause-entered c = (
  subst (λ (v : Seeing). IsPrefix v.list c.keep.new.kept.known.log) c.self.view_is c.if-not-keep.ensures.1,
  c.saturating_add-self-inside.ensures ∙ ap (λ (v : Seeing). risen v.entered) c.self.view_is,
)
