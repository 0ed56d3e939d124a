-- How much work an engine may count.
use Rattle.std.specs.Prelude.{◌≡◌, ◌≤◌, ℕ, ◌+◌, List, [], ◌∷◌, filter, length, sum_by, Option, Some, None, if◌then◌else◌}
use Rattle.rg_base.specs.Counts.{Counts}
use Rattle.rg_policy.specs.declared.policy.Policy.{Policy}
use Rattle.rg_policy.specs.declared.request.AccessRequest.{AccessRequest}
use Rattle.rg_policy.specs.declared.request.Element.{Element}
use Rattle.rg_policy.specs.declared.tags.Tag.{Tag}
use Rattle.rg_defs.specs.Rules.{tag_name}
use Rattle.rg_defs.specs.declared.service_def.ServiceDef.{ServiceDef}
use Rattle.rg_tags.specs.declared.row.TagRow.{TagRow}
use Rattle.rg_cmd.specs.Lookups.{has_id, has_row_id}
use Rattle.rg_cmd.specs.declared.changes.PolicyChange.{PolicyChange}
use Rattle.rg_cmd.specs.declared.changes.TagChange.{TagChange}
use Rattle.rg_cmd.specs.declared.download.PolicyDelta.{PolicyDelta}
use Rattle.rg_cmd.specs.declared.download.TagDelta.{TagDelta}
use Rattle.rg_delta.specs.Applied.{policies_after, rows_after, tag_policies_after}
use Rattle.rg_facts.specs.Candidates.{tags_of}
use Rattle.rg_facts.specs.declared.facts.Facts.{Facts}
use Rattle.rg_index.specs.Candidates.{bound}
use Rattle.rg_index.specs.declared.form.Form.{Form}
use Rattle.rg_policy_sets.specs.Bounds.{pairs_of_change, pairs_under, policy_form, policy_forms, row_form, row_forms}
pub use Rattle.rg_policy_sets.specs.Bounds.{HasCompiled, WorkWithin, made}

-- ---- tries

-- a tag as a resource of the tag definition
abbrev pub tag_element : Tag → Element
tag_element tag = record { level = tag_name; value = tag.kind }

-- the bound on tag policies for one tag
abbrev pub tag_bound : Option ServiceDef → List Form → Tag → ℕ
tag_bound None forms tag = 0
tag_bound (Some def) forms tag = bound def forms (tag_element tag ∷ [])

-- the bound on policies, that on tag rows, and for each tag of the resource that on tag policies
abbrev pub bound_on : Facts → AccessRequest → ℕ
bound_on facts q =
    bound facts.def (policy_forms facts.policies.items) q.resource.elements.items
    + (bound facts.def (row_forms facts.tag_rows.items) q.resource.elements.items
    + sum_by (tag_bound facts.tag_def (policy_forms facts.tag_policies.items)) (tags_of facts q))

-- so many tries are counted at most, and nothing else
pub record TriesWithin (most : ℕ) (old new : Counts) : Type 0 where
  pub tries : new.tries ≤ old.tries + most
  pub compiles : new.compiles ≡ old.compiles
  pub edits : new.edits ≡ old.edits

-- ---- compiles and edits

-- how many policies and tag policies there are
abbrev pub policies_in : Facts → ℕ
policies_in facts = length facts.policies.items + length facts.tag_policies.items

-- how often all that facts have is filed
abbrev pub pairs_in : Facts → ℕ
pairs_in facts =
    pairs_under (Some facts.def) (policy_forms facts.policies.items)
    + (pairs_under facts.tag_def (policy_forms facts.tag_policies.items)
    + pairs_under (Some facts.def) (row_forms facts.tag_rows.items))

abbrev pub pairs_of_policy_changes : Facts → List Policy → List Policy → List PolicyChange → ℕ
pairs_of_policy_changes facts policies tag_policies [] = 0
pairs_of_policy_changes facts policies tag_policies (c ∷ cs) =
    (if c.tag then pairs_of_change facts.tag_def c.change_type (policy_form c.policy) (policy_forms (filter (has_id c.policy.id.0) tag_policies))
    else pairs_of_change (Some facts.def) c.change_type (policy_form c.policy) (policy_forms (filter (has_id c.policy.id.0) policies)))
    + pairs_of_policy_changes facts (policies_after policies c) (tag_policies_after tag_policies c) cs

abbrev pub pairs_of_row_changes : Facts → List TagRow → List TagChange → ℕ
pairs_of_row_changes facts rows [] = 0
pairs_of_row_changes facts rows (c ∷ cs) =
    pairs_of_change (Some facts.def) c.change_type (row_form c.row) (row_forms (filter (has_row_id c.row.id) rows))
    + pairs_of_row_changes facts (rows_after rows c) cs

-- the sum over the changes of both deltas, each of what stood before it
abbrev pub pairs_of_changes : Facts → PolicyDelta → TagDelta → ℕ
pairs_of_changes facts policies tags =
    pairs_of_policy_changes facts facts.policies.items facts.tag_policies.items policies.changes.items
    + pairs_of_row_changes facts facts.tag_rows.items tags.changes.items
