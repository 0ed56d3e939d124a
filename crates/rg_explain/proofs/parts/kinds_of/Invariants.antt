use Rattle.std.proofs.Common.{◌≡◌, map, take}
use Rattle.rg_base.specs.Listed.{listed}
use Rattle.rg_policy.specs.declared.tags.Tag.{Tag}
use Rattle.rg_explain.proofs.parts.kinds_of.Given as goal

abbrev pub invariant-loop-tag : goal.invariant-loop-tag
invariant-loop-tag l = l.list ≡ listed (map (λ (t : Tag). t.kind) (take l.tag-index l.tags))
