-- What a set's slots say of its policies or rows.
use Rattle.std.proofs.Common.{◌≡◌, ◌≤◌, ◌||◌, ℕ, ℤ, Bool, true, false, List, Contains, None, filter, length, map, refl, sym, ap, subst, ◌∙◌, arith}
use Rattle.std.proofs.lemmas.List.Sums.{count_by-le-length, length-filter}
use Rattle.std.specs.List.{sum_by}
use Rattle.rg_policy.specs.Maps.{maps_of}
use Rattle.rg_policy.specs.declared.policy.Policy.{Policy}
use Rattle.rg_policy.specs.declared.request.Element.{Element}
use Rattle.rg_resmatch.specs.Tests.{lies, some_lies}
use Rattle.rg_resmatch.specs.declared.reach.Reach.TheVariants.{Exact, Down}
use Rattle.rg_tags.specs.declared.row.TagRow.{TagRow}
use Rattle.rg_evalr.specs.Frames.{def_of}
use Rattle.rg_evalr.specs.Sources.{Source}
use Rattle.rg_evalr.specs.declared.frame.Frame.{Frame}
use Rattle.rg_evalr.specs.declared.frame.Side.{Side}
use Rattle.rg_index.specs.Candidates.{bound}
use Rattle.rg_index.specs.declared.form.Form.{Form}
use Rattle.rg_base.proofs.Lists.{Contains-filter, Contains-filtered, Contains-map, Contains-mapped}
use Rattle.rg_policy_sets.specs.Bounds.{policy_forms, row_forms}
use Rattle.rg_policy_sets.specs.Kept.{AreFound, ArePolicies, AreRows, Placed, Shelved, all_held, held_forms, left_after, policies_in, row_source_form, rows_in, source_form}
use Rattle.rg_policy_sets.specs.Marks.{Asked, admits, admitted}
use Rattle.rg_policy_sets.specs.Seen.{Policies, RowSource, Rows, row_source, source}
use Rattle.rg_policy_sets.proofs.Leaving.{among_left, asked_left, few_left, weighed_left}
use Rattle.rg_policy_sets.proofs.Passing.{policy_forms_held, row_forms_held}
use Rattle.rg_policy_sets.proofs.Visiting.{among_held, few_held, visited}

or_none : (b : Bool) → b ≡ true → (b || false) ≡ true
or_none true h = refl
or_none false h = h

module _ (frame : Frame) (side : Side) (shelf : Shelved Source) (are : ArePolicies frame side shelf) (elements : List Element) (ordinals : List ℤ) where
  few_policies : length ordinals ≡ bound shelf.def (held_forms source_form shelf.slots) elements
      → length (all_held shelf.slots ordinals) ≤ bound (def_of frame side) (policy_forms (policies_in shelf.slots)) elements
  few_policies exact =
      let same : bound shelf.def (held_forms source_form shelf.slots) elements ≡ bound (def_of frame side) (policy_forms (policies_in shelf.slots)) elements =
      λ i. bound (are.def i) (policy_forms_held shelf.slots i) elements in
      let few = few_held shelf.slots ordinals in
      omega (arith, few, exact, same)

  among_policies : (s : Source) → Contains (all_held shelf.slots ordinals) s → Contains (map (source frame side) (policies_in shelf.slots)) s
  among_policies s h = subst (λ (all : List Source). Contains all s) are.sources (among_held shelf.slots ordinals s h)

  -- the slot of a policy
  slot_of : (p : Policy) → Contains (policies_in shelf.slots) p → (s : Placed Source) × Contains shelf.slots s × (s.held ≡ source frame side p)
  slot_of p there =
      let s = Contains-mapped (λ (s : Placed Source). s.held.policy) shelf.slots p there in
      let held : Contains (map (source frame side) (policies_in shelf.slots)) s.0.held =
      subst (λ (all : List Source). Contains all s.0.held) are.sources (Contains-map (λ (s : Placed Source). s.held) shelf.slots s.0 s.1) in
      let q = Contains-mapped (source frame side) (policies_in shelf.slots) s.0.held held in
      let same : q.0 ≡ p = ap (λ (t : Source). t.policy) q.2 ∙ s.2 in
      (s.0, s.1, sym q.2 ∙ ap (source frame side) same)

  all_policies : AreFound source_form shelf elements ordinals → (p : Policy) (user : List ℕ) → Contains (policies_in shelf.slots) p
      → some_lies (def_of frame side) (maps_of p) Exact elements user ≡ true → Contains (all_held shelf.slots ordinals) (source frame side p)
  all_policies found p user there lies =
      let s = slot_of p there in
      let on : some_lies shelf.def (maps_of s.0.held.policy) Exact elements user ≡ true =
      (λ i. some_lies (are.def i) (maps_of (s.2 i).policy) Exact elements user) ∙ lies in
      subst (Contains (all_held shelf.slots ordinals)) s.2 (visited shelf.slots found.rising ordinals s.0 s.1 (found.all s.0 user s.1 on))

-- no more are admitted
few_admitted : {X : Type 0} (test : X → Bool) (xs : List X) → length (filter test xs) ≤ length xs
few_admitted test xs = let all = length-filter test xs in let few = count_by-le-length test xs in omega (arith, all, few)

-- the same over what the contract names
module _ (seen : Policies) (frame : Frame) (side : Side) (shelf : Shelved Source)
    (view : (let inside : Policies = record { frame = frame; side = side; policies = policies_in shelf.slots } in inside) ≡ seen)
    (are : ArePolicies frame side shelf) (elements : List Element) (ordinals : List ℤ) (slots : List (Placed Source)) (same : slots ≡ shelf.slots)
    (first second : Asked) (result : List Source) (is : result ≡ admitted first second (all_held slots ordinals)) where
  result_is : result ≡ admitted first second (all_held shelf.slots ordinals)
  result_is = is ∙ ap (λ (ss : List (Placed Source)). admitted first second (all_held ss ordinals)) same

  pub few_visits : AreFound source_form shelf elements ordinals → length result ≤ bound (def_of seen.frame seen.side) (policy_forms seen.policies) elements
  few_visits found =
      let few = few_policies frame side shelf are elements ordinals found.few in
      let fewer = few_admitted (admits first second) (all_held shelf.slots ordinals) in
      let long = ap length result_is in
      subst (λ (v : Policies). length result ≤ bound (def_of v.frame v.side) (policy_forms v.policies) elements) view (omega (arith, few, fewer, long))

  pub among_visits : (s : Source) → Contains result s → Contains (map (source seen.frame seen.side) seen.policies) s
  among_visits s h =
      let held = (Contains-filtered (admits first second) (all_held shelf.slots ordinals) s (subst (λ (r : List Source). Contains r s) result_is h)).0 in
      subst (λ (v : Policies). Contains (map (source v.frame v.side) v.policies) s) view (among_policies frame side shelf are elements ordinals s held)

  pub all_visits : AreFound source_form shelf elements ordinals
      → ((p : Policy) (user : List ℕ) → some_lies (def_of frame side) (maps_of p) Exact elements user ≡ true → admits first second (source frame side p) ≡ true)
      → (p : Policy) (user : List ℕ) → Contains seen.policies p
      → some_lies (def_of seen.frame seen.side) (maps_of p) Exact elements user ≡ true → Contains result (source seen.frame seen.side p)
  all_visits found law =
      subst (λ (v : Policies). (p : Policy) (user : List ℕ) → Contains v.policies p
      → some_lies (def_of v.frame v.side) (maps_of p) Exact elements user ≡ true → Contains result (source v.frame v.side p)) view
      (λ p user there lying. subst (λ (r : List Source). Contains r (source frame side p)) (sym result_is)
      (Contains-filter (admits first second) (all_held shelf.slots ordinals) (source frame side p) (all_policies frame side shelf are elements ordinals found p user there lying) (law p user lying)))

module _ (seen : Rows) (shelf : Shelved RowSource) (view : (let inside : Rows = record { def = shelf.def; rows = rows_in shelf.slots } in inside) ≡ seen) (are : AreRows shelf)
    (elements : List Element) (ordinals : List ℤ) (found : AreFound row_source_form shelf elements ordinals) (result : List RowSource) (is : result ≡ left_after None ordinals shelf.slots) where
  pub few_rows : length result ≤ bound seen.def (row_forms seen.rows) elements
  few_rows =
      let same : bound shelf.def (held_forms row_source_form shelf.slots) elements ≡ bound shelf.def (row_forms (rows_in shelf.slots)) elements =
      ap (λ (fs : List Form). bound shelf.def fs elements) (row_forms_held shelf.slots) in
      let few = few_left ordinals shelf.slots found.rising in
      let exact = found.few in
      let long = ap length is in
      subst (λ (v : Rows). length result ≤ bound v.def (row_forms v.rows) elements) view (omega (arith, few, exact, same, long))

  pub among_rows : (s : RowSource) → Contains result s → Contains (map (row_source seen.def) seen.rows) s
  among_rows s h =
      subst (λ (v : Rows). Contains (map (row_source v.def) v.rows) s) view
      (subst (λ (all : List RowSource). Contains all s) are (among_left None ordinals shelf.slots s (subst (λ (r : List RowSource). Contains r s) is h)))

  pub once_rows : (weigh : TagRow → ℕ) → sum_by (λ (s : RowSource). weigh s.row) result ≤ sum_by weigh seen.rows
  once_rows weigh =
      let once = weighed_left weigh None ordinals shelf.slots in
      let same = ap (sum_by (λ (s : RowSource). weigh s.row)) is in
      subst (λ (v : Rows). sum_by (λ (s : RowSource). weigh s.row) result ≤ sum_by weigh v.rows) view (omega (arith, once, same))

  -- the slot of a row
  row_slot : (row : TagRow) → Contains (rows_in shelf.slots) row → (s : Placed RowSource) × Contains shelf.slots s × (s.held ≡ row_source shelf.def row)
  row_slot row there =
      let s = Contains-mapped (λ (s : Placed RowSource). s.held.row) shelf.slots row there in
      let held : Contains (map (row_source shelf.def) (rows_in shelf.slots)) s.0.held =
      subst (λ (all : List RowSource). Contains all s.0.held) are (Contains-map (λ (s : Placed RowSource). s.held) shelf.slots s.0 s.1) in
      let q = Contains-mapped (row_source shelf.def) (rows_in shelf.slots) s.0.held held in
      let same : q.0 ≡ row = ap (λ (t : RowSource). t.row) q.2 ∙ s.2 in
      (s.0, s.1, sym q.2 ∙ ap (row_source shelf.def) same)

  pub all_rows : (row : TagRow) (user : List ℕ) → Contains seen.rows row
      → lies seen.def row.resources.items Down elements user ≡ true → Contains result (row_source seen.def row)
  all_rows =
      subst (λ (v : Rows). (row : TagRow) (user : List ℕ) → Contains v.rows row → lies v.def row.resources.items Down elements user ≡ true → Contains result (row_source v.def row)) view
      (λ row user there on.
      let s = row_slot row there in
      let lying = or_none (lies shelf.def s.0.held.row.resources.items Down elements user) (ap (λ (t : RowSource). lies shelf.def t.row.resources.items Down elements user) s.2 ∙ on) in
      subst (λ (r : List RowSource). Contains r (row_source shelf.def row)) (sym is)
      (subst (Contains (left_after None ordinals shelf.slots)) s.2 (asked_left ordinals shelf.slots s.0 s.1 (found.all s.0 user s.1 lying))))
