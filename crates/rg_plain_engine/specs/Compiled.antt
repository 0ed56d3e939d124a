-- For proofs: what the plain engine keeps of facts.
use Rattle.std.specs.Prelude.{◌≡◌, List, map}
use Rattle.rg_base.specs.Listed.{listed}
use Rattle.rg_policy.specs.declared.policy.Policy.{Policy}
use Rattle.rg_evalr.specs.Sources.{Source}
use Rattle.rg_evalr.specs.declared.frame.Frame.{Frame}
use Rattle.rg_evalr.specs.declared.frame.Side.{Side}
use Rattle.rg_evalr.specs.declared.frame.Side.TheVariants.{Resource, Tag}
use Rattle.rg_facts.specs.Candidates.{frame_of}
use Rattle.rg_facts.specs.Engines.{row_matching}
use Rattle.rg_facts.specs.declared.facts.Facts.{Facts}
use Rattle.rg_plain_engine.specs.declared.plain.Compiled.{Compiled}

-- what each policy of a side is compiled from
abbrev pub sources_of : Frame → Side → List Policy → List Source
sources_of frame side policies = map (λ (p : Policy). let s : Source = record { frame = frame; policy = p; side = side } in s) policies

-- an evaluator of each policy, and the matcher of each tag row
pub record AreCompiled (facts : Facts) (c : Compiled) : Type 0 where
  pub evaluators : c.evaluators ≡ listed (sources_of (frame_of facts) Resource facts.policies.items)
  pub tag_evaluators : c.tag_evaluators ≡ listed (sources_of (frame_of facts) Tag facts.tag_policies.items)
  pub row_matchers : c.row_matchers ≡ listed (map (row_matching facts.def) facts.tag_rows.items)
