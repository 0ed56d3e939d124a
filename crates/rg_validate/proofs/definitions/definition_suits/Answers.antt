use Rattle.std.proofs.Common.{rules, ◌≡◌, ap, ◌∙◌}
use Rattle.rg_validate.specs.Definitions.{definition_suits, names_with, services_suit}
use Rattle.rg_validate.proofs.definitions.definition_suits.Goals as goal

pub returns : goal.returns
unfolding definition_suits
returns c =
    let names : c.as_slice.result.now ≡ names_with c.args.state.now c.args.def.now.name = search rules in
    let suit : c.in_ok-suit.suit ≡ services_suit c.args.state.now c.args.def.now c.as_slice.result.now = search rules in
    suit ∙ ap (services_suit c.args.state.now c.args.def.now) names
