use Rattle.std.proofs.Common.{◌≡◌, subst, true}
use Rattle.rg_delta.specs.Applied.{applied}
use Rattle.rg_facts.specs.Sound.{sound}
use Rattle.rg_facts.specs.declared.facts.Facts.{Facts}
use Rattle.bench_figures.proofs.engine.changes.check_after.Goals as goal

pub returns : goal.returns
returns c =
    let deltas = c.args.deltas.now in
    subst (λ (f : Facts). sound (applied f deltas.policies deltas.tags deltas.roles) ≡ true) c.in_ok-copy.ensures
    (subst (λ (f : Facts). sound f ≡ true) c.in_ok-after.ensures c.in_ok-judged.ensures.sound)
