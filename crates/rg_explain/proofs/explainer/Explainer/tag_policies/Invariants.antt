use Rattle.std.proofs.Common.{◌≡◌, take}
use Rattle.std.specs.Prelude.{flat_map, option_map}
use Rattle.rg_base.specs.Listed.{listed}
use Rattle.rg_tags.specs.declared.row.TagRow.{TagRow}
use Rattle.rg_facts.specs.Candidates.{tag_candidates}
use Rattle.rg_explain.specs.Explaining.{told_all}
use Rattle.rg_explain.specs.Parts.{setting_with}
use Rattle.rg_explain.proofs.explainer.Explainer.tag_policies.Given as goal

abbrev pub invariant-loop-row : goal.invariant-loop-row
invariant-loop-row l =
    let s = setting_with l.self l.request (option_map (λ z. z.now) l.zone) in
    l.list ≡ listed (told_all s (flat_map (tag_candidates l.self) (flat_map (λ (row : TagRow). row.tags.items) (take l.row-index l.rows))))
