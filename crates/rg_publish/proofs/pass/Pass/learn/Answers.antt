use Rattle.std.proofs.Common.{sym, subst}
use mathlib.Core.List.{IsPrefix}
use Rattle.rg_publish.specs.declared.shown.Shown.{Shown}
use Rattle.rg_publish.specs.Publications.{Published}
use Rattle.rg_publish.specs.Passes.{Seeing}
use Rattle.rg_publish.proofs.Lists.{prefix_self}
use Rattle.rg_publish.proofs.pass.Pass.learn.Goals as goal

pub returns-then-is_before-clause-begins : goal.returns-then-is_before-clause-begins
returns-then-is_before-clause-begins c =
    let told : Shown = c.told.inside.shown in
    let own = subst (λ (v : Seeing). IsPrefix v.list told.known.log) c.self.view_is c.if-is_before.ensures.1 in
    let theirs = subst (λ (v : Published). IsPrefix v.list told.known.log) c.told.view_is (prefix_self told.known.log) in
    subst (λ (s : Shown). IsPrefix c.args.self.now.list s.known.log × IsPrefix c.args.told.list s.known.log) (sym c.replace-old.ensures.after) (own, theirs)

pub returns-else-is_before-clause-begins : goal.returns-else-is_before-clause-begins
returns-else-is_before-clause-begins c =
    let own : Shown = c.self.inside.kept in
    let theirs = subst (λ (v : Published). IsPrefix v.list own.known.log) c.told.view_is c.if-is_before.ensures.1 in
    (prefix_self c.args.self.now.list, subst (λ (v : Seeing). IsPrefix c.args.told.list v.list) c.self.view_is theirs)
