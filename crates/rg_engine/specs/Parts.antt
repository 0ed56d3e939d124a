-- For proofs alone: the parts of an engine, and the facts that they make.
use Rattle.std.specs.Prelude.{◌≡◌, ℕ, Bool, true, if◌then◌else◌, List, [], fold, Option, Some, None}
use Rattle.std.specs.List.{list_all}
use Rattle.std.specs.Ordering.{int_eq}
use Rattle.rg_base.specs.Listed.{Listed}
use Rattle.rg_base.specs.Texts.{all_distinct}
use Rattle.rg_policy.specs.declared.policy.Policy.{Policy}
use Rattle.rg_defs.specs.Rules.{def_fault}
use Rattle.rg_defs.specs.declared.service_def.ServiceDef.{ServiceDef}
use Rattle.rg_resmatch.specs.Rules.{tagged_fit}
use Rattle.rg_tags.specs.declared.row.TagRow.{TagRow}
use Rattle.rg_evalr.specs.Frames.{def_of}
use Rattle.rg_evalr.specs.declared.frame.Frame.{Frame}
use Rattle.rg_evalr.specs.declared.frame.Side.TheVariants.{Resource, Tag}
use Rattle.rg_cmd.specs.declared.changes.PolicyChange.{PolicyChange}
use Rattle.rg_cmd.specs.declared.changes.TagChange.{TagChange}
use Rattle.rg_delta.specs.Applied.{policies_after, rows_after, tag_policies_after}
use Rattle.rg_facts.specs.Candidates.{frame_of}
use Rattle.rg_facts.specs.Sound.{passes, row_ids, same_id}
use Rattle.rg_facts.specs.declared.facts.Facts.{Facts}
use Rattle.rg_policy_sets.specs.Bounds.{pairs_on}
use Rattle.rg_policy_sets.specs.Seen.{Policies, Rows}
use Rattle.rg_engine.specs.declared.lists.Lists.{Lists}
use Rattle.rg_engine.specs.declared.lists.Spares.{Spares}
use Rattle.rg_engine.specs.declared.setup.Versions.{Versions}

-- ---- what is compiled

-- policies, tag policies and tag rows, and what they are read under
pub record Compiled : Type 0 where
  pub frame : Frame
  pub policies : List Policy
  pub tag_policies : List Policy
  pub rows : List TagRow

-- those of facts
abbrev pub compiled_of : Facts → Compiled
compiled_of facts = record { frame = frame_of facts; policies = facts.policies.items; tag_policies = facts.tag_policies.items; rows = facts.tag_rows.items }

-- those after changes
abbrev pub compiled_after : Compiled → List PolicyChange → List TagChange → Compiled
compiled_after c policies tags = record {
  frame = c.frame;
  policies = fold policies_after c.policies policies;
  tag_policies = fold tag_policies_after c.tag_policies policies;
  rows = fold rows_after c.rows tags;
}

-- they may be compiled
pub record MayCompile (c : Compiled) : Type 0 where
  pub lawful : def_fault (def_of c.frame Resource) ≡ None
  pub tag_lawful : def_fault (def_of c.frame Tag) ≡ None
  pub rules : list_all (passes c.frame Resource) c.policies ≡ true
  pub tag_rules : list_all (passes c.frame Tag) c.tag_policies ≡ true
  pub fit : list_all (λ (row : TagRow). tagged_fit c.frame.def row.resources.items) c.rows ≡ true
  pub apart : all_distinct same_id c.policies ≡ true
  pub tag_apart : all_distinct same_id c.tag_policies ≡ true
  pub rows_apart : all_distinct int_eq (row_ids c.rows) ≡ true
  pub none : c.frame.tag_def ≡ None → c.tag_policies ≡ []

-- ---- the sets of them

-- the tag policies of a set, where there is one
abbrev pub tag_policies_of : Option Policies → List Policy
tag_policies_of None = []
tag_policies_of (Some set) = set.policies

-- there is a set of tag policies, read under the frame, where this has a tag definition
abbrev pub IsTagSet : Frame → Option Policies → Type 0
IsTagSet frame None = frame.tag_def ≡ None
IsTagSet frame (Some set) = (set.frame ≡ frame) × (set.side ≡ Tag) × ((def : ServiceDef) × (frame.tag_def ≡ Some def))

-- the tag policies of facts, and their tag rows, as sets
abbrev pub tag_set : Facts → Policies
tag_set facts = record { frame = frame_of facts; side = Tag; policies = facts.tag_policies.items }

abbrev pub row_set : Facts → Rows
row_set facts = record { def = facts.def; rows = facts.tag_rows.items }

-- the sum over changes of tag policies, of which there are none without a definition
abbrev pub tag_pairs : Option ServiceDef → List Policy → List PolicyChange → ℕ
tag_pairs None policies changes = 0
tag_pairs (Some def) policies changes = pairs_on def Tag policies changes

-- ---- facts

-- these items, with a place reserved or not
abbrev pub spared : {X : Type 0} → Bool → List X → Listed X
spared ready items = record { items = items; spare = if ready then 1 else 0 }

-- what is compiled, as lists with these places reserved
abbrev pub lists_of : Spares → Compiled → Lists
lists_of s c = record { policies = spared s.policies c.policies; tag_policies = spared s.tag_policies c.tag_policies; tag_rows = spared s.tag_rows c.rows }

-- a setup with lists and versions
abbrev pub joined : Facts → Versions → Lists → Facts
joined setup v lists = record setup {
  policies = lists.policies;
  tag_policies = lists.tag_policies;
  tag_rows = lists.tag_rows;
  policy_version = v.policies;
  tag_version = v.tags;
  role_version = v.roles;
}
