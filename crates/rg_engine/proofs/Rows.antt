-- The tag rows that are visited, in the place of all.
use Rattle.std.proofs.Common.{◌≡◌, ◌↔◌, ◌≤◌, ◌||◌, ℕ, Bool, true, false, cond, List, [], Contains, map, refl, sym, ap, ◌∙◌, arith}
use Rattle.std.specs.List.{filter, sum_by}
use Rattle.rg_base.proofs.Lists.{Contains-filter, Contains-filtered, Contains-flat_map, Contains-flat_mapped, Contains-mapped, Contains-same}
use Rattle.rg_policy.specs.declared.request.AccessRequest.{AccessRequest}
use Rattle.rg_policy.specs.declared.request.Element.{Element}
use Rattle.rg_policy.specs.declared.tags.Tag.{Tag}
use Rattle.rg_defs.specs.declared.service_def.ServiceDef.{ServiceDef}
use Rattle.rg_resmatch.specs.Matching.{Matching}
use Rattle.rg_resmatch.specs.Tests.{lies, some_lies}
use Rattle.rg_resmatch.specs.declared.reach.Reach.TheVariants.{Down}
use Rattle.rg_tags.specs.declared.row.TagRow.{TagRow}
use Rattle.rg_facts.specs.Candidates.{row_lies, tags_of}
use Rattle.rg_facts.specs.Engines.{row_matching}
use Rattle.rg_facts.specs.declared.facts.Facts.{Facts}
use Rattle.rg_policy_sets.specs.Seen.{RowSource, row_source}
use Rattle.rg_engine.specs.Asked.{reaching_tags}
use Rattle.rg_engine.proofs.Apart.{sum_alike, sum_of_all, sum_of_some}

or_none : (b : Bool) → (b || false) ≡ b
or_none true = refl
or_none false = refl

-- whether a row lies is what its matcher answers, whoever asks
pub reach_is : (def : ServiceDef) (row : TagRow) (m : Matching) (elements : List Element) (user : List ℕ) → m ≡ row_matching def row → user ≡ []
    → some_lies m.def m.maps m.reach elements user ≡ lies def row.resources.items Down elements []
reach_is def row m elements user is nobody = (λ i. some_lies (is i).def (is i).maps (is i).reach elements (nobody i)) ∙ or_none (lies def row.resources.items Down elements [])

module _ (facts : Facts) (q : AccessRequest) (visited : List RowSource)
    (among : (r : RowSource) → Contains visited r → Contains (map (row_source facts.def) facts.tag_rows.items) r) where
  -- the row of a source reaches down to the resource
  abbrev reaches : RowSource → Bool
  reaches r = lies r.def r.row.resources.items Down q.resource.elements.items []

  reaches_alike : (r : RowSource) → Contains visited r → reaches r ≡ row_lies facts q r.row
  reaches_alike r there =
      let row = Contains-mapped (row_source facts.def) facts.tag_rows.items r (among r there) in
      ap (λ (x : RowSource). lies x.def r.row.resources.items Down q.resource.elements.items []) (sym row.2)

  row_there : (r : RowSource) → Contains visited r → Contains facts.tag_rows.items r.row
  row_there r there =
      let row = Contains-mapped (row_source facts.def) facts.tag_rows.items r (among r there) in
      Contains-same facts.tag_rows.items row.0 r.row (ap (λ (x : RowSource). x.row) row.2) row.1

  -- where all that lie are visited, their tags are those of the resource
  pub same_tags : ((row : TagRow) → Contains facts.tag_rows.items row → row_lies facts q row ≡ true → Contains visited (row_source facts.def row))
      → (tag : Tag) → Contains (reaching_tags q.resource.elements.items visited) tag ↔ Contains (tags_of facts q) tag
  same_tags all tag = (to, from) where
    to : Contains (reaching_tags q.resource.elements.items visited) tag → Contains (tags_of facts q) tag
    to i =
        let r = Contains-flat_mapped (λ (x : RowSource). x.row.tags.items) (filter reaches visited) tag i in
        let there = Contains-filtered reaches visited r.0 r.1 in
        Contains-flat_map (λ (row : TagRow). row.tags.items) (filter (row_lies facts q) facts.tag_rows.items) r.0.row tag
        (Contains-filter (row_lies facts q) facts.tag_rows.items r.0.row (row_there r.0 there.0) (sym (reaches_alike r.0 there.0) ∙ there.1)) r.2

    from : Contains (tags_of facts q) tag → Contains (reaching_tags q.resource.elements.items visited) tag
    from i =
        let row = Contains-flat_mapped (λ (x : TagRow). x.tags.items) (filter (row_lies facts q) facts.tag_rows.items) tag i in
        let there = Contains-filtered (row_lies facts q) facts.tag_rows.items row.0 row.1 in
        let r : RowSource = row_source facts.def row.0 in
        Contains-flat_map (λ (x : RowSource). x.row.tags.items) (filter reaches visited) r tag (Contains-filter reaches visited r (all row.0 there.0 there.1) there.1) row.2

  -- where each is visited at most once, a sum over their tags is within the sum over those of the resource
  pub tags_within : ((weigh : TagRow → ℕ) → sum_by (λ (r : RowSource). weigh r.row) visited ≤ sum_by weigh facts.tag_rows.items) → (f : Tag → ℕ)
      → sum_by f (reaching_tags q.resource.elements.items visited) ≤ sum_by f (tags_of facts q)
  tags_within once f =
      let weigh : TagRow → ℕ = λ row. cond (row_lies facts q row) (sum_by f row.tags.items) 0 in
      let these : sum_by f (reaching_tags q.resource.elements.items visited) ≡ sum_by (λ (r : RowSource). weigh r.row) visited =
      sum_of_all f (λ (r : RowSource). r.row.tags.items) (filter reaches visited)
      ∙ sum_of_some (λ (r : RowSource). sum_by f r.row.tags.items) reaches visited
      ∙ sum_alike (λ (r : RowSource). cond (reaches r) (sum_by f r.row.tags.items) 0) (λ (r : RowSource). weigh r.row) visited (λ r there. ap (λ b. cond b (sum_by f r.row.tags.items) 0) (reaches_alike r there)) in
      let those : sum_by f (tags_of facts q) ≡ sum_by weigh facts.tag_rows.items =
      sum_of_all f (λ (row : TagRow). row.tags.items) (filter (row_lies facts q) facts.tag_rows.items)
      ∙ sum_of_some (λ (row : TagRow). sum_by f row.tags.items) (row_lies facts q) facts.tag_rows.items in
      let fewer = once weigh in
      omega (arith, these, those, fewer)
