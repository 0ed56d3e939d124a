use Rattle.std.proofs.Common.{◌∙◌, ◌++◌, ◌∷◌, [], sym}
use Rattle.std.specs.List.{list_all}
use Rattle.rg_base.proofs.Lists.{left_passes}
use Rattle.rg_base.specs.Texts.{is_name}
use Rattle.rg_policy.specs.declared.policy.PolicyResource.{PolicyResource}
use Rattle.rg_delegate.specs.Compiled.{level_form}
use Rattle.rg_delegate.proofs.Fitting.{map_next}
use Rattle.rg_delegate.proofs.reading.read_levels.Goals as goal

pub loop-resource-preserved : goal.loop-resource-preserved
loop-resource-preserved c =
    let i = c.loop-resource.resource-index in
    let resources = c.args.resources.now in
    let r = c.resource-item.result in
    record {
      so_far = c.in_ok-push.ensures.items
          ∙ (λ j. c.loop-resource.invariant.so_far j ++ c.in_ok-level.ensures j ∷ [])
          ∙ sym (map_next (level_form c.args.def.now) resources i r c.loop-resource-test.true c.resource-item.is);
      written = (left_passes (λ (r : PolicyResource). list_all is_name r.values.items) i resources r c.loop-resource-test.true c.resource-item.is c.loop-resource.invariant.written).1;
    }
