use Rattle.std.proofs.Common.{None, option_map, ap, ◌∙◌}
use Rattle.rg_policy.specs.declared.request.Element.{Element}
use Rattle.rg_facts.proofs.Values.{last_is_last, last_mapped}
use Rattle.rg_facts.proofs.paths.last_value.Goals as goal

pub returns-in-Some : goal.returns-in-Some
returns-in-Some c =
    let elements = c.args.elements.now in
    ap (option_map (λ (e : Element). e.value)) (c.in-Some.ensures.value ∙ last_is_last elements)
    ∙ last_mapped (λ (e : Element). e.value) None elements
