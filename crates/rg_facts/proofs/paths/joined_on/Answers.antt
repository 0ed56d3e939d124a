use Rattle.std.proofs.Common.{◌+◌, ◌<◌, ℕ, List, Option, length, drop, get_or, sym, ap, ◌∙◌, arith}
use Rattle.std.proofs.lemmas.List.{drop_more}
use Rattle.std.specs.List.{filter_map}
use Rattle.rg_facts.specs.Joining.{after_value}
use Rattle.rg_facts.specs.Texts.{value_of_place}
use Rattle.rg_facts.proofs.Values.{with_later, later_value}
use Rattle.rg_facts.proofs.paths.joined_on.Goals as goal

pub loop-place-preserved : goal.loop-place-preserved
loop-place-preserved c =
    let f = value_of_place c.args.levels.now c.args.elements.now in
    let path = c.args.path.now in
    let i = c.loop-place.place-index in
    let text = c.loop-place.text in
    let rest = filter_map f (drop (i + 1) path) in
    let within : i < length path = omega arith in
    ap (λ (t : Option (List ℕ)). with_later t rest) (c.in_ok-text.ensures ∙ ap (after_value text) c.value_of_place.ensures)
    ∙ later_value text (f (get_or path i 0)) rest
    ∙ ap (λ (places : List ℕ). with_later text (filter_map f places)) (sym (drop_more path i 0 within))
    ∙ c.loop-place.invariant
