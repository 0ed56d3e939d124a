use Rattle.std.proofs.Common.{[], ap, ◌∙◌}
use Rattle.std.proofs.lemmas.Str.{chars-nil}
use Rattle.rg_resmatch.specs.Tests.{lies}
use Rattle.rg_resmatch.specs.declared.reach.Reach.TheVariants.{Down}
use Rattle.rg_facts.specs.Candidates.{Setting}
use Rattle.rg_engine.proofs.Rows.{reach_is}
use Rattle.rg_engine.proofs.asking.reaches.Goals as goal

pub returns-clause-answer : goal.returns-clause-answer
returns-clause-answer g c =
    let row = c.args.row.now in
    c.matches.ensures.answer
    ∙ reach_is row.def row.row c.matcher.result.now c.setting.inside.request.now.resource.elements.items _ c.matcher.ensures chars-nil
    ∙ ap (λ (s : Setting). lies row.def row.row.resources.items Down s.request.resource.elements.items []) c.setting.view_is
