-- Candidates that were asked one after the other, and those that could take part.
use Rattle.std.proofs.Common.{◌≡◌, ◌↔◌, ◌++◌, ℕ, ℤ, Bool, true, false, cond, List, [], ◌∷◌, Option, Some, None, Contains, map, inl, inr, refl, sym, ap, subst, ◌∙◌, arith}
use Rattle.std.proofs.lemmas.Bool.{and_parts}
use Rattle.std.proofs.lemmas.Int.{ints}
use Rattle.std.proofs.lemmas.List.Concat.{flat_map-append}
use Rattle.std.proofs.lemmas.List.Elements.{Contains-append_cases, Contains-append_left, Contains-append_right}
use Rattle.std.specs.List.{filter, flat_map}
use Rattle.std.specs.Ordering.{int_eq}
use Rattle.rg_base.specs.Texts.{all_distinct}
use Rattle.rg_base.proofs.Lists.{Contains-flat_map, Contains-flat_mapped, Contains-map, Contains-mapped, Contains-same}
use Rattle.rg_policy.specs.Maps.{maps_of}
use Rattle.rg_policy.specs.declared.policy.Policy.{Policy}
use Rattle.rg_policy.specs.declared.request.AccessRequest.{AccessRequest}
use Rattle.rg_policy.specs.declared.request.Element.{Element}
use Rattle.rg_policy.specs.declared.tags.Tag.{Tag}
use Rattle.rg_resmatch.specs.Tests.{lies, some_lies, tag_elements}
use Rattle.rg_resmatch.specs.declared.reach.Reach.TheVariants.{Down, Exact}
use Rattle.rg_evalr.specs.Effects.{is_scheduled, is_valid, lies_on}
use Rattle.rg_evalr.specs.Frames.{def_of}
use Rattle.rg_evalr.specs.Sources.{Source}
use Rattle.rg_evalr.specs.declared.frame.Side.{Side}
use Rattle.rg_evalr.specs.declared.frame.Side.TheVariants.{Resource, Tag as Tagged}
use Rattle.rg_facts.specs.Best.{Best, after, none_yet, outcome_by}
use Rattle.rg_facts.specs.Candidates.{Candidate, Setting, candidate, candidates, context_of, is_chosen, resource_candidates, setting_of, tag_candidates, tags_of, takes_part}
use Rattle.rg_facts.specs.Engines.{asked_for}
use Rattle.rg_facts.specs.Flow.{outcome, outcome_of}
use Rattle.rg_facts.specs.Laws.{AreTold, HaveSame}
use Rattle.rg_facts.specs.Sound.{all_policies, same_id}
use Rattle.rg_facts.specs.declared.best.Pass.TheVariants.{All}
use Rattle.rg_facts.specs.declared.facts.Facts.{Facts}
use Rattle.rg_facts.proofs.Passes.{after_both}
use Rattle.rg_policy_sets.specs.Seen.{Policies, RowSource, source}
use Rattle.rg_engine.specs.Asked.{Finds, all_for, all_tagged, reaching_tags}
use Rattle.rg_engine.proofs.Apart.{same_is_one}

-- ---- lists with the same things

have_itself : {X : Type 0} (test : X → Bool) (xs : List X) → HaveSame test xs xs
have_itself test xs = λ x passes. (λ i. i, λ i. i)

joined : {X : Type 0} (xs ys us vs : List X) (x : X) → (Contains xs x → Contains ys x) → (Contains us x → Contains vs x) → Contains (xs ++ us) x → Contains (ys ++ vs) x
joined xs ys us vs x h k i = elim (Contains-append_cases xs us x i) [
  | inl left ↦ Contains-append_left ys vs x (h left)
  | inr right ↦ Contains-append_right ys vs x (k right)
]

have_both : {X : Type 0} (test : X → Bool) (xs ys us vs : List X) → HaveSame test xs ys → HaveSame test us vs → HaveSame test (xs ++ us) (ys ++ vs)
have_both test xs ys us vs h k = λ x passes. (joined xs ys us vs x (h x passes).0 (k x passes).0, joined ys xs vs us x (h x passes).1 (k x passes).1)

made_of : {X Y : Type 0} (f : X → List Y) (xs ys : List X) → ((x : X) → Contains xs x → Contains ys x) → (y : Y) → Contains (flat_map f xs) y → Contains (flat_map f ys) y
made_of f xs ys among y i = let x = Contains-flat_mapped f xs y i in Contains-flat_map f ys x.0 y (among x.0 x.1) x.2

-- what is made of lists with the same things is the same
pub have_made : {X Y : Type 0} (test : Y → Bool) (f : X → List Y) (xs ys : List X) → ((x : X) → Contains xs x ↔ Contains ys x) → HaveSame test (flat_map f xs) (flat_map f ys)
have_made test f xs ys same = λ y passes. (made_of f xs ys (λ x. (same x).0) y, made_of f ys xs (λ x. (same x).1) y)

-- ---- what is found

abbrev reach : List Element → RowSource → Bool
reach elements r = lies r.def r.row.resources.items Down elements []

pub next_tags : (elements : List Element) (row : RowSource) (rows : List RowSource) → lies row.def row.row.resources.items Down elements [] ≡ true
    → reaching_tags elements (row ∷ rows) ≡ row.row.tags.items ++ reaching_tags elements rows
next_tags elements row rows h = ap (λ b. flat_map (λ (r : RowSource). r.row.tags.items) (cond b (row ∷ filter (reach elements) rows) (filter (reach elements) rows))) h

pub past_tags : (elements : List Element) (row : RowSource) (rows : List RowSource) → lies row.def row.row.resources.items Down elements [] ≡ false
    → reaching_tags elements (row ∷ rows) ≡ reaching_tags elements rows
past_tags elements row rows h = ap (λ b. flat_map (λ (r : RowSource). r.row.tags.items) (cond b (row ∷ filter (reach elements) rows) (filter (reach elements) rows))) h

module _ (s : Setting) where
  pub finds_none : (b : Best) → Finds s [] b b
  finds_none b = record { asked = []; is = refl; same = have_itself (takes_part s) [] }

  -- these and then those
  pub finds_both : (these those : List Candidate) (a b c : Best) → Finds s these a b → Finds s those b c → Finds s (these ++ those) a c
  finds_both these those a b c h k = record {
    asked = h.asked ++ k.asked;
    is = k.is ∙ ap (after All s k.asked) h.is ∙ sym (after_both All s h.asked k.asked a);
    same = have_both (takes_part s) h.asked these k.asked those h.same k.same;
  }

  -- or others, of which those that take part are the same
  pub finds_others : (these those : List Candidate) (a b : Best) → HaveSame (takes_part s) these those → Finds s these a b → Finds s those a b
  finds_others these those a b same h = record {
    asked = h.asked;
    is = h.is;
    same = λ c passes. (λ i. (same c passes).0 ((h.same c passes).0 i), λ i. (h.same c passes).1 ((same c passes).1 i));
  }

  -- for one tag and then for others
  pub finds_next : (set : Policies) (tag : Tag) (tags : List Tag) (a b c : Best) → Finds s (all_for set (Some tag)) a b → Finds s (all_tagged set tags) b c → Finds s (all_tagged set (tag ∷ tags)) a c
  finds_next set tag tags a b c h k = finds_both (all_for set (Some tag)) (all_tagged set tags) a b c h k

  -- for the tags of a row that reaches down to the elements and then for those of others, or only for those of others
  pub finds_row : (set : Policies) (elements : List Element) (row : RowSource) (rows : List RowSource) (a b c : Best) → lies row.def row.row.resources.items Down elements [] ≡ true
      → Finds s (all_tagged set row.row.tags.items) a b → Finds s (all_tagged set (reaching_tags elements rows)) b c → Finds s (all_tagged set (reaching_tags elements (row ∷ rows))) a c
  finds_row set elements row rows a b c lies_there h k =
      subst (λ cs. Finds s cs a c) (sym (flat_map-append (λ tag. all_for set (Some tag)) row.row.tags.items (reaching_tags elements rows)) ∙ ap (all_tagged set) (sym (next_tags elements row rows lies_there)))
      (finds_both (all_tagged set row.row.tags.items) (all_tagged set (reaching_tags elements rows)) a b c h k)

  pub finds_past : (set : Policies) (elements : List Element) (row : RowSource) (rows : List RowSource) (a c : Best) → lies row.def row.row.resources.items Down elements [] ≡ false
      → Finds s (all_tagged set (reaching_tags elements rows)) a c → Finds s (all_tagged set (reaching_tags elements (row ∷ rows))) a c
  finds_past set elements row rows a c misses h = subst (λ tags. Finds s (all_tagged set tags) a c) (sym (past_tags elements row rows misses)) h

-- ---- visited policies

-- a policy that takes part lies on what it is asked about
lies_there : (s : Setting) (c : Candidate) → takes_part s c ≡ true → lies_on c.source.frame c.source.side (context_of s c) c.source.policy ≡ true
lies_there s c h =
    let p = c.source.policy in
    let a = and_parts (is_chosen s c) _ h in
    let b = and_parts p.enabled _ a.1 in
    let d = and_parts (is_scheduled (is_valid c.source.frame (context_of s c)) p.schedules.items) _ b.1 in
    (and_parts (lies_on c.source.frame c.source.side (context_of s c) p) _ d.1).0

-- what a policy of either side lies on
pub lies_on_tag : (s : Setting) (set : Policies) (tag : Tag) (kind : List ℕ) (p : Policy) → set.side ≡ Tagged → kind ≡ tag.kind
    → lies_on set.frame set.side (context_of s (candidate set.frame set.side (Some tag) p)) p ≡ true
    → some_lies (def_of set.frame set.side) (maps_of p) Exact (tag_elements kind) s.request.user ≡ true
lies_on_tag s set tag kind p side is =
    subst (λ (v : Side). lies_on set.frame v (context_of s (candidate set.frame v (Some tag) p)) p ≡ true → some_lies (def_of set.frame v) (maps_of p) Exact (tag_elements kind) s.request.user ≡ true) (sym side)
    (λ h. ap (λ k. some_lies (def_of set.frame Tagged) (maps_of p) Exact (tag_elements k) s.request.user) is ∙ h)

pub lies_on_resource : (s : Setting) (set : Policies) (elements : List Element) (p : Policy) → set.side ≡ Resource → elements ≡ s.request.resource.elements.items
    → lies_on set.frame set.side (context_of s (candidate set.frame set.side None p)) p ≡ true
    → some_lies (def_of set.frame set.side) (maps_of p) Exact elements s.request.user ≡ true
lies_on_resource s set elements p side is =
    subst (λ (v : Side). lies_on set.frame v (context_of s (candidate set.frame v None p)) p ≡ true → some_lies (def_of set.frame v) (maps_of p) Exact elements s.request.user ≡ true) (sym side)
    (λ h. ap (λ es. some_lies (def_of set.frame Resource) (maps_of p) Exact es s.request.user) is ∙ h)

-- where all that lie are visited, and no others than these, each visited one is asked in the place of all
module _ (s : Setting) (set : Policies) (tag : Option Tag) (visited : List Source)
    (among : (x : Source) → Contains visited x → Contains (map (source set.frame set.side) set.policies) x)
    (all : (p : Policy) → Contains set.policies p → lies_on set.frame set.side (context_of s (candidate set.frame set.side tag p)) p ≡ true → Contains visited (source set.frame set.side p)) where
  abbrev asked_one : Source → Candidate
  asked_one x = record { source = x; tag = tag }

  visited_among : (c : Candidate) → Contains (asked_for tag visited) c → Contains (all_for set tag) c
  visited_among c i =
      let x = Contains-mapped asked_one visited c i in
      let p = Contains-mapped (source set.frame set.side) set.policies x.0 (among x.0 x.1) in
      Contains-same (all_for set tag) (candidate set.frame set.side tag p.0) c (ap asked_one p.2 ∙ x.2) (Contains-map (candidate set.frame set.side tag) set.policies p.0 p.1)

  all_visited : (c : Candidate) → takes_part s c ≡ true → Contains (all_for set tag) c → Contains (asked_for tag visited) c
  all_visited c passes i =
      let p = Contains-mapped (candidate set.frame set.side tag) set.policies c i in
      let there = all p.0 p.1 (lies_there s (candidate set.frame set.side tag p.0) (ap (takes_part s) p.2 ∙ passes)) in
      Contains-same (asked_for tag visited) (candidate set.frame set.side tag p.0) c p.2 (Contains-map asked_one visited (source set.frame set.side p.0) there)

  pub finds_visited : (a b : Best) → b ≡ after All s (asked_for tag visited) a → Finds s (all_for set tag) a b
  finds_visited a b is = record { asked = asked_for tag visited; is = is; same = λ c passes. (visited_among c, all_visited c passes) }

-- ---- the outcome

-- the policy of a candidate is one of the facts'
policy_there : (facts : Facts) (q : AccessRequest) (c : Candidate) → Contains (candidates facts q) c → Contains (all_policies facts) c.source.policy
policy_there facts q c i = elim (Contains-append_cases (flat_map (tag_candidates facts) (tags_of facts q)) (resource_candidates facts) c i) [
  | inl tagged ↦ (
      let tag = Contains-flat_mapped (tag_candidates facts) (tags_of facts q) c tagged in
      let p = Contains-mapped _ facts.tag_policies.items c tag.2 in
      Contains-same (all_policies facts) p.0 c.source.policy (ap (λ (d : Candidate). d.source.policy) p.2) (Contains-append_right facts.policies.items facts.tag_policies.items p.0 p.1))
  | inr own ↦ (
      let p = Contains-mapped _ facts.policies.items c own in
      Contains-same (all_policies facts) p.0 c.source.policy (ap (λ (d : Candidate). d.source.policy) p.2) (Contains-append_left facts.policies.items facts.tag_policies.items p.0 p.1))
]

turned : (x y : ℤ) → int_eq x y ≡ true → int_eq y x ≡ true
turned x y h = grind (arith, ints)

-- no two of them have one id
pub are_told : (facts : Facts) (q : AccessRequest) → all_distinct same_id (all_policies facts) ≡ true → AreTold (candidates facts q)
are_told facts q apart = λ c d i j ids sides.
    same_is_one same_id (all_policies facts) apart c.source.policy d.source.policy (policy_there facts q c i) (policy_there facts q d j) ids (turned c.source.policy.id.0 d.source.policy.id.0 ids)

-- what was found gives what the written flow gives
pub found_outcome : (facts : Facts) (q : AccessRequest) (b : Best)
    → ((fallback : Bool) (s : Setting) (these those : List Candidate) → AreTold those → HaveSame (takes_part s) these those → outcome_of fallback s these ≡ outcome_of fallback s those)
    → ((fallback : Bool) (s : Setting) (cs : List Candidate) → outcome_by fallback (after All s cs none_yet) ≡ outcome_of fallback s cs)
    → all_distinct same_id (all_policies facts) ≡ true → Finds (setting_of facts q) (candidates facts q) none_yet b → outcome_by facts.fallback b ≡ outcome facts q
found_outcome facts q b order best apart h =
    let s = setting_of facts q in
    ap (outcome_by facts.fallback) h.is ∙ best facts.fallback s h.asked ∙ order facts.fallback s h.asked (candidates facts q) (are_told facts q apart) h.same
