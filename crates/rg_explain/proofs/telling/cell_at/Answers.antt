use Rattle.std.proofs.Common.{ap, ◌∙◌}
use Rattle.std.specs.Prelude.{option_map}
use Rattle.rg_standing.specs.Asking.{Asked}
use Rattle.rg_explain.specs.Explaining.{cell_told}
use Rattle.rg_explain.proofs.Chosen.{cell_of_asked}
use Rattle.rg_explain.proofs.telling.cell_at.Goals as goal

pub returns : goal.returns
returns c =
    let a = c.args.question.now in
    let p = c.args.policy.now in
    c.cell_told.ensures
    ∙ ap (λ (x : Asked). cell_told p x.side c.args.standing.now) c.question.view_is
    ∙ ap (cell_told p a.side) c.requires.standing
    ∙ cell_of_asked a (option_map (λ z. z.now) c.args.zone) p c.requires.chosen (c.told_standing_gives_effect.ensures a p)
