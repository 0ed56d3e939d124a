use Rattle.std.proofs.Common.{◌≡◌, drop, map}
use Rattle.std.specs.List.{join_with_byte}
use Rattle.rg_policy.specs.declared.request.Element.{Element}
use Rattle.rg_facts.proofs.Values.{with_later}
use Rattle.rg_facts.proofs.paths.all_joined.Given as goal

-- the text with the values to come is the whole
abbrev pub invariant-loop-element : goal.invariant-loop-element
invariant-loop-element l = with_later l.text (map (λ (e : Element). e.value) (drop l.element-index l.elements))
    ≡ join_with_byte 47 (map (λ (e : Element). e.value) l.elements)
