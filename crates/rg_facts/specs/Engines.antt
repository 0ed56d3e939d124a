-- For proofs: what engines ask.
use Rattle.std.specs.Prelude.{List, [], ◌∷◌, map, Option}
use Rattle.rg_policy.specs.declared.tags.Tag.{Tag}
use Rattle.rg_defs.specs.declared.service_def.ServiceDef.{ServiceDef}
use Rattle.rg_resmatch.specs.Matching.{Matching}
use Rattle.rg_resmatch.specs.declared.reach.Reach.TheVariants.{Down}
use Rattle.rg_tags.specs.declared.row.TagRow.{TagRow}
use Rattle.rg_evalr.specs.Sources.{Source}
use Rattle.rg_facts.specs.Candidates.{Candidate}

-- the policies of these, asked for the tag
abbrev pub asked_for : Option Tag → List Source → List Candidate
asked_for tag sources = map (λ (s : Source). let c : Candidate = record { source = s; tag = tag } in c) sources

-- the matcher of a tag row
abbrev pub row_matching : ServiceDef → TagRow → Matching
row_matching def row = record { def = def; maps = record { levels = row.resources } ∷ []; reach = Down }
