use Rattle.std.proofs.Common.{◌≡◌, ap, sym, ◌∙◌}
use Rattle.rg_evalr.specs.Frames.{def_of}
use Rattle.rg_evalr.specs.declared.frame.Side.TheVariants.{Tag as Tagged}
use Rattle.rg_facts.specs.Candidates.{frame_of}
use Rattle.rg_facts.specs.declared.facts.Facts.{Facts}
use Rattle.rg_zones.specs.Zoning.{Zoning}
use Rattle.rg_explain.proofs.explainer.Explainer.build.Goals as goal

pub invariant_of-result : goal.invariant_of-result
invariant_of-result c =
    let facts = c.args.facts in
    let back : facts ≡ c.in_ok-engine.engine = sym c.in_ok-engine.ensures in (
      c.in_ok-frame.ensures ∙ ap frame_of back,
      c.in_ok-roles.ensures ∙ c.as_slice.ensures ∙ ap (λ (f : Facts). f.roles.items) back,
      c.in_ok-zones.ensures ∙ ap (λ (f : Facts). let z : Zoning = record { zones = f.zones.items; service = f.service; def = f.def } in z) back,
      c.in_ok-paths.ensures ∙ ap (λ (f : Facts). f.def.levels.items) back,
      c.in_ok-tag_paths.ensures ∙ (λ i. (c.tag_def_of.ensures i).levels.items) ∙ ap (λ (f : Facts). (def_of (frame_of f) Tagged).levels.items) back,
    )
