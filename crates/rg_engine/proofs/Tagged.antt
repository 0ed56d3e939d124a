-- What is asked for facts: the tag policies for the tags of the rows that are visited, and the resource policies.
use Rattle.std.proofs.Common.{◌≡◌, ◌≤◌, ◌+◌, ℕ, true, List, [], ◌∷◌, Some, None, Contains, length, map, unwrap_or, refl, sym, ap, subst, ◌∙◌, arith}
use Rattle.std.specs.List.{flat_map, sum_by}
use Rattle.rg_base.specs.Counts.{Counts}
use Rattle.rg_policy.specs.declared.request.AccessRequest.{AccessRequest}
use Rattle.rg_policy.specs.declared.request.Element.{Element}
use Rattle.rg_policy.specs.declared.tags.Tag.{Tag}
use Rattle.rg_defs.specs.declared.service_def.ServiceDef.{ServiceDef}
use Rattle.rg_resmatch.specs.Tests.{lies}
use Rattle.rg_resmatch.specs.declared.reach.Reach.TheVariants.{Down}
use Rattle.rg_tags.specs.declared.row.TagRow.{TagRow}
use Rattle.rg_evalr.specs.Frames.{def_of}
use Rattle.rg_evalr.specs.declared.frame.Frame.{Frame}
use Rattle.rg_evalr.specs.declared.frame.Side.TheVariants.{Resource as Own, Tag as Tagged}
use Rattle.rg_facts.specs.Best.{Best, none_yet}
use Rattle.rg_facts.specs.Candidates.{Candidate, Setting, candidate, frame_of, resource_candidates, row_lies, tag_candidates, tags_of, takes_part}
use Rattle.rg_facts.specs.declared.facts.Facts.{Facts}
use Rattle.rg_index.specs.Candidates.{bound}
use Rattle.rg_policy_sets.specs.Bounds.{policy_forms, row_forms}
use Rattle.rg_policy_sets.specs.Seen.{Policies, RowSource, Rows, row_source}
use Rattle.rg_engine.specs.Asked.{Finds, all_for, all_tagged, reaching_tags, tag_tries}
use Rattle.rg_engine.specs.Bounds.{TriesWithin, bound_on, tag_bound, tag_element}
use Rattle.rg_engine.specs.Parts.{IsTagSet, row_set, tag_set}
use Rattle.rg_engine.proofs.Apart.{sum_alike}
use Rattle.rg_engine.proofs.Counting.{both_tries, more_tries}
use Rattle.rg_engine.proofs.Found.{finds_none, finds_others, have_made}
use Rattle.rg_engine.proofs.Rows.{same_tags, tags_within}

module _ (s : Setting) (facts : Facts) (set : Policies) (rows : Rows) (visited : List RowSource) (elements : List Element)
    (set_is : set ≡ tag_set facts) (rows_are : rows ≡ row_set facts) (elements_are : elements ≡ s.request.resource.elements.items)
    (among : (r : RowSource) → Contains visited r → Contains (map (row_source rows.def) rows.rows) r) where
  among_facts : (r : RowSource) → Contains visited r → Contains (map (row_source facts.def) facts.tag_rows.items) r
  among_facts r there = subst (λ (x : Rows). Contains (map (row_source x.def) x.rows) r) rows_are (among r there)

  pub found_tagged : (b : Best)
      → ((row : TagRow) (user : List ℕ) → Contains rows.rows row → lies rows.def row.resources.items Down elements user ≡ true → Contains visited (row_source rows.def row))
      → Finds s (all_tagged set (reaching_tags s.request.resource.elements.items visited)) none_yet b → Finds s (flat_map (tag_candidates facts) (tags_of facts s.request)) none_yet b
  found_tagged b all found =
      let q = s.request in
      let these = reaching_tags q.resource.elements.items visited in
      let all_of : (row : TagRow) → Contains facts.tag_rows.items row → row_lies facts q row ≡ true → Contains visited (row_source facts.def row) =
      λ row there lying. subst (λ (x : Rows). Contains visited (row_source x.def row)) rows_are
      (all row [] (subst (λ (x : Rows). Contains x.rows row) (sym rows_are) there) ((λ i. lies (rows_are i).def row.resources.items Down (elements_are i) []) ∙ lying)) in
      finds_others s (all_tagged (tag_set facts) these) (flat_map (tag_candidates facts) (tags_of facts q)) none_yet b
      (have_made (takes_part s) (tag_candidates facts) these (tags_of facts q) (same_tags facts q visited among_facts all_of))
      (subst (λ (x : Policies). Finds s (all_tagged x these) none_yet b) set_is found)

  pub tries_tagged : (old new : Counts) → length visited ≤ bound rows.def (row_forms rows.rows) elements
      → ((weigh : TagRow → ℕ) → sum_by (λ (r : RowSource). weigh r.row) visited ≤ sum_by weigh rows.rows)
      → TriesWithin (length visited + sum_by (tag_tries set) (reaching_tags s.request.resource.elements.items visited)) old new
      → TriesWithin (bound facts.def (row_forms facts.tag_rows.items) elements + sum_by (tag_tries set) (tags_of facts s.request)) old new
  tries_tagged old new few once tried =
      let f = tag_tries set in
      let these = sum_by f (reaching_tags s.request.resource.elements.items visited) in
      let fewer : length visited ≤ bound facts.def (row_forms facts.tag_rows.items) elements = subst (λ (x : Rows). length visited ≤ bound x.def (row_forms x.rows) elements) rows_are few in
      let within : these ≤ sum_by f (tags_of facts s.request) =
      tags_within facts s.request visited among_facts (λ weigh. subst (λ (x : Rows). sum_by (λ (r : RowSource). weigh r.row) visited ≤ sum_by weigh x.rows) rows_are (once weigh)) f in
      let both : length visited + these ≤ bound facts.def (row_forms facts.tag_rows.items) elements + sum_by f (tags_of facts s.request) = omega (arith, fewer, within) in
      more_tries (length visited + these) (bound facts.def (row_forms facts.tag_rows.items) elements + sum_by f (tags_of facts s.request)) old new both tried

-- the bound on tag policies is that of their definition
pub tag_tries_are : (facts : Facts) (set : Policies) (def : ServiceDef) → set ≡ tag_set facts → facts.tag_def ≡ Some def → (tags : List Tag)
    → sum_by (tag_tries set) tags ≡ sum_by (tag_bound facts.tag_def (policy_forms facts.tag_policies.items)) tags
tag_tries_are facts set def set_is there tags = sum_alike (tag_tries set) (tag_bound facts.tag_def (policy_forms facts.tag_policies.items)) tags (λ tag _.
    ap (λ (x : Policies). tag_tries x tag) set_is
    ∙ (λ i. bound (unwrap_or (there i) facts.def) (policy_forms facts.tag_policies.items) (tag_element tag ∷ []))
    ∙ sym (λ i. tag_bound (there i) (policy_forms facts.tag_policies.items) tag))

-- a set of tag policies is that of facts, and so is a set of rows
pub is_tag_set : (facts : Facts) (set : Policies) (frame : Frame) → frame ≡ frame_of facts → IsTagSet frame (Some set) → set.policies ≡ facts.tag_policies.items → set ≡ tag_set facts
is_tag_set facts set frame frame_is h policies_are = λ i. record { frame = (h.0 ∙ frame_is) i; side = h.1 i; policies = policies_are i }

pub is_row_set : (facts : Facts) (rows : Rows) → rows.def ≡ facts.def → rows.rows ≡ facts.tag_rows.items → rows ≡ row_set facts
is_row_set facts rows def_is rows_are = λ i. record { def = def_is i; rows = rows_are i }

pub tagged_tries : (facts : Facts) (set : Policies) (def : ServiceDef) → set ≡ tag_set facts → facts.tag_def ≡ Some def → (tags : List Tag) (n : ℕ) (a b : Counts)
    → TriesWithin (n + sum_by (tag_tries set) tags) a b → TriesWithin (n + sum_by (tag_bound facts.tag_def (policy_forms facts.tag_policies.items)) tags) a b
tagged_tries facts set def set_is there tags n a b h = subst (λ m. TriesWithin (n + m) a b) (tag_tries_are facts set def set_is there tags) h

none_made : (tags : List Tag) → flat_map (λ tag. let none : List Candidate = [] in none) tags ≡ []
none_made [] = refl
none_made (tag ∷ tags) = none_made tags

-- where there are no tag policies nothing is asked
pub found_untagged : (s : Setting) (facts : Facts) (tags : List Tag) (b : Best) → facts.tag_policies.items ≡ [] → Finds s (flat_map (tag_candidates facts) tags) b b
found_untagged s facts tags b none =
    subst (λ cs. Finds s cs b b)
    (sym ((λ i. flat_map (λ tag. map (candidate (frame_of facts) Tagged (Some tag)) (none i)) tags) ∙ none_made tags))
    (finds_none s b)

-- the resource policies as a set
pub is_own_set : (s : Setting) (facts : Facts) (set : Policies) (a b : Best) → set.frame ≡ frame_of facts → set.side ≡ Own → set.policies ≡ facts.policies.items
    → Finds s (all_for set None) a b → Finds s (resource_candidates facts) a b
is_own_set s facts set a b frame_is side_is policies_are h =
    subst (λ cs. Finds s cs a b) (λ i. map (candidate (frame_is i) (side_is i) None) (policies_are i)) h

-- what both count
pub tries_of_all : (facts : Facts) (q : AccessRequest) (set : Policies) (elements : List Element) (a b d : Counts) → set.frame ≡ frame_of facts → set.side ≡ Own → set.policies ≡ facts.policies.items → elements ≡ q.resource.elements.items
    → TriesWithin (bound facts.def (row_forms facts.tag_rows.items) elements + sum_by (tag_bound facts.tag_def (policy_forms facts.tag_policies.items)) (tags_of facts q)) a b
    → TriesWithin (bound (def_of set.frame set.side) (policy_forms set.policies) elements) b d → TriesWithin (bound_on facts q) a d
tries_of_all facts q set elements a b d frame_is side_is policies_are elements_are h k =
    let own : bound (def_of set.frame set.side) (policy_forms set.policies) elements ≡ bound facts.def (policy_forms facts.policies.items) q.resource.elements.items =
    λ i. bound (def_of (frame_is i) (side_is i)) (policy_forms (policies_are i)) (elements_are i) in
    let rows : bound facts.def (row_forms facts.tag_rows.items) elements ≡ bound facts.def (row_forms facts.tag_rows.items) q.resource.elements.items = ap (bound facts.def (row_forms facts.tag_rows.items)) elements_are in
    let tags = sum_by (tag_bound facts.tag_def (policy_forms facts.tag_policies.items)) (tags_of facts q) in
    more_tries ((bound facts.def (row_forms facts.tag_rows.items) elements + tags) + bound (def_of set.frame set.side) (policy_forms set.policies) elements) (bound_on facts q) a d
    (omega (arith, own, rows))
    (both_tries (bound facts.def (row_forms facts.tag_rows.items) elements + tags) (bound (def_of set.frame set.side) (policy_forms set.policies) elements) a b d h k)
