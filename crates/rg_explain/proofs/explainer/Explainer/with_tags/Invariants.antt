use Rattle.std.proofs.Common.{◌≡◌, ◌++◌, take}
use Rattle.std.specs.Prelude.{flat_map, option_map}
use Rattle.rg_base.specs.Listed.{listed}
use Rattle.rg_facts.specs.Candidates.{tag_candidates}
use Rattle.rg_explain.specs.Explaining.{told_all}
use Rattle.rg_explain.specs.Parts.{setting_with}
use Rattle.rg_explain.proofs.explainer.Explainer.with_tags.Given as goal

abbrev pub invariant-loop-tag : goal.invariant-loop-tag
invariant-loop-tag l =
    let s = setting_with l.self l.request (option_map (λ z. z.now) l.zone) in
    l.list ≡ listed (l.fn.list.items ++ told_all s (flat_map (tag_candidates l.self) (take l.tag-index l.tags)))
