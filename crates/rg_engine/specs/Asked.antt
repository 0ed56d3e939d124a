-- For proofs alone: what is found after candidates were asked, whatever their order.
use Rattle.std.specs.Prelude.{◌≡◌, ℕ, List, [], ◌∷◌, map, flat_map, Option, Some}
use Rattle.std.specs.List.{filter}
use Rattle.rg_policy.specs.declared.request.Element.{Element}
use Rattle.rg_policy.specs.declared.tags.Tag.{Tag}
use Rattle.rg_resmatch.specs.Tests.{lies}
use Rattle.rg_resmatch.specs.declared.reach.Reach.TheVariants.{Down}
use Rattle.rg_evalr.specs.Frames.{def_of}
use Rattle.rg_facts.specs.Best.{Best, after}
use Rattle.rg_facts.specs.Candidates.{Candidate, Setting, candidate, takes_part}
use Rattle.rg_facts.specs.Laws.{HaveSame}
use Rattle.rg_facts.specs.declared.best.Pass.TheVariants.{All}
use Rattle.rg_index.specs.Candidates.{bound}
use Rattle.rg_policy_sets.specs.Bounds.{policy_forms}
use Rattle.rg_policy_sets.specs.Seen.{Policies, RowSource}
use Rattle.rg_engine.specs.Bounds.{tag_element}

-- each policy of a side, asked for the tag
abbrev pub all_for : Policies → Option Tag → List Candidate
all_for set tag = map (candidate set.frame set.side tag) set.policies

-- each of them, asked for each of these tags
abbrev pub all_tagged : Policies → List Tag → List Candidate
all_tagged set tags = flat_map (λ tag. all_for set (Some tag)) tags

-- the bound on them for one tag
abbrev pub tag_tries : Policies → Tag → ℕ
tag_tries set tag = bound (def_of set.frame set.side) (policy_forms set.policies) (tag_element tag ∷ [])

-- the tags of those rows that reach down to the elements
abbrev pub reaching_tags : List Element → List RowSource → List Tag
reaching_tags elements rows = flat_map (λ (r : RowSource). r.row.tags.items) (filter (λ (r : RowSource). lies r.def r.row.resources.items Down elements []) rows)

-- after what was found before some candidates were asked: those of them that take part are the same as those of these
pub record Finds (s : Setting) (these : List Candidate) (before found : Best) : Type 0 where
  pub asked : List Candidate
  pub is : found ≡ after All s asked before
  pub same : HaveSame (takes_part s) asked these
