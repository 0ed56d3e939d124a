use Rattle.std.proofs.Common.{◌≡◌, ap, slice_get, sym, ◌∙◌}
use Rattle.rg_defs.specs.declared.service_def.ServiceDef.{ServiceDef}
use Rattle.rg_evalr.specs.Frames.{def_of}
use Rattle.rg_evalr.specs.Sources.{Source}
use Rattle.rg_policy_sets.specs.Marks.{mark_at, source_mark}
use Rattle.rg_policy_sets.proofs.held.HeldPolicy.compile.Goals as goal

pub invariant_of-result : goal.invariant_of-result
invariant_of-result g c =
    let is = c.in_ok-evaluator.ensures.source in
    let levels : c.as_slice-levels.result.now ≡ (def_of c.args.frame.now c.args.side).levels.items = c.as_slice-levels.ensures ∙ ap (λ (d : ServiceDef). d.levels.items) c.def_of.ensures in (
      ap (λ (s : Source). s.policy) is ∙ c.deref-policy.ensures ∙ sym c.in_ok-try_copy.ensures,
      c.in_ok-first.ensures ∙ (λ i. mark_at (slice_get (levels i) 0) c.deref-policy.result.now) ∙ sym (ap (source_mark 0) is),
      c.in_ok-second.ensures ∙ (λ i. mark_at (slice_get (levels i) 1) c.deref-policy.result.now) ∙ sym (ap (source_mark 1) is),
    )
