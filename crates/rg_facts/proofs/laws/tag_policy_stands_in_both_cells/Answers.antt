use Rattle.std.proofs.Common.{◌≡◌, ℕ, true, false, Some, Contains, eqb, map, filter, refl, ap, ◌∙◌}
use Rattle.std.proofs.lemmas.Bool.{eq-eqb}
use Rattle.std.proofs.lemmas.List.Elements.{Contains-append_left}
use Rattle.std.specs.List.{flat_map}
use Rattle.std.specs.Option.{option_map_or}
use Rattle.rg_base.proofs.Lists.{Contains-filter, Contains-flat_map, Contains-map}
use Rattle.rg_policy.specs.declared.policy.Policy.{Policy}
use Rattle.rg_policy.specs.declared.request.AccessRequest.{AccessRequest}
use Rattle.rg_policy.specs.declared.tags.Tag.{Tag}
use Rattle.rg_evalr.specs.declared.frame.Effect.{Effect}
use Rattle.rg_evalr.specs.declared.frame.Side.TheVariants.{Tag as Tagged}
use Rattle.rg_facts.specs.Candidates.{Candidate, candidate, candidates, frame_of, resource_candidates, setting_of, tag_candidates, tags_of}
use Rattle.rg_facts.specs.Flow.{cell_of, given, policies_in, stands_in}
use Rattle.rg_facts.specs.declared.facts.Facts.{Facts}
use Rattle.rg_facts.proofs.laws.tag_policy_stands_in_both_cells.Goals as goal

-- a tag policy with this effect for some tag stands in the cell of it
stands : (facts : Facts) (q : AccessRequest) (p : Policy) (tag : Tag) (e : Effect) (n : ℕ) → Contains facts.tag_policies.items p → Contains (tags_of facts q) tag
    → given (setting_of facts q) (candidate (frame_of facts) Tagged (Some tag) p) ≡ e → cell_of p.priority Tagged e ≡ Some n → Contains (policies_in (setting_of facts q) (candidates facts q) n) p
stands facts q p tag e n there tagged gives_it cell =
    let s = setting_of facts q in
    let c : Candidate = candidate (frame_of facts) Tagged (Some tag) p in
    let passes : stands_in s n c ≡ true =
    ap (λ (x : Effect). option_map_or (λ m. eqb m n) (cell_of p.priority Tagged x) false) gives_it
    ∙ ap (λ o. option_map_or (λ m. eqb m n) o false) cell ∙ eq-eqb n n refl in
    let asked : Contains (candidates facts q) c =
    Contains-append_left (flat_map (tag_candidates facts) (tags_of facts q)) (resource_candidates facts) c
    (Contains-flat_map (tag_candidates facts) (tags_of facts q) tag c tagged (Contains-map (candidate (frame_of facts) Tagged (Some tag)) facts.tag_policies.items p there)) in
    Contains-map (λ (x : Candidate). x.source.policy) (filter (stands_in s n) (candidates facts q)) c (Contains-filter (stands_in s n) (candidates facts q) c asked passes)

pub returns : goal.returns
returns c = λ facts q p denied allowed n m there d a denies allows in_n in_m.
    (stands facts q p denied _ n there d denies in_n, stands facts q p allowed _ m there a allows in_m)
