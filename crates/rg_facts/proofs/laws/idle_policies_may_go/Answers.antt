use Rattle.std.proofs.Common.{Some, None, ap}
use Rattle.rg_facts.specs.Candidates.{candidate, frame_of, resource_candidates, setting_of, tag_candidates, tags_of}
use Rattle.rg_facts.specs.Flow.{verdict_of}
use Rattle.std.specs.List.{flat_map}
use Rattle.rg_evalr.specs.declared.frame.Side.TheVariants.{Resource, Tag}
use Rattle.rg_facts.proofs.Idle.{resource_idle, tagged_idle}
use Rattle.rg_facts.proofs.laws.idle_policies_may_go.Goals as goal

pub returns-clause-policies : goal.returns-clause-policies
returns-clause-policies c = λ facts q p before later idle.
    ap verdict_of (resource_idle facts.fallback (setting_of facts q) (candidate (frame_of facts) Resource None) (flat_map (tag_candidates facts) (tags_of facts q)) p before later idle)

pub returns-clause-tag_policies : goal.returns-clause-tag_policies
returns-clause-tag_policies c = λ facts q p before later idle.
    ap verdict_of (tagged_idle facts.fallback (setting_of facts q) (λ tag. candidate (frame_of facts) Tag (Some tag)) (resource_candidates facts) p before later (tags_of facts q) idle)
