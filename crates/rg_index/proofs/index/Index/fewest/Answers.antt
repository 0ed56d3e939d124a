use Rattle.std.proofs.Common.{◌≡◌, ℕ, List, None, length, option_map, take, ap, ◌∙◌, arith}
use Rattle.std.proofs.Math.Seq.{take-length}
use Rattle.std.specs.List.{fold}
use Rattle.rg_policy.specs.declared.request.Element.{Element}
use Rattle.rg_index.specs.Candidates.{filed_number}
use Rattle.rg_index.proofs.Choosing.{chosen, step}
use Rattle.rg_index.proofs.index.Index.fewest.Goals as goal

pub returns : goal.returns
returns c =
    let elements : List Element = c.args.elements.now in
    let number : Element → ℕ = filed_number c.args.self.now.def c.args.self.now.forms elements in
    let all : c.loop-element.element-index ≡ length elements = omega arith in
    let whole : take c.loop-element.element-index elements ≡ elements = ap (λ (n : ℕ). take n elements) all ∙ take-length elements in
    c.element_of.ensures
    ∙ ap (option_map (λ (p : Element × ℕ). p.0)) (c.loop-element.invariant ∙ ap (fold (step number) None) whole) ∙ chosen number elements
