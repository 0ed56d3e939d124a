-- Sources and candidates, made of the policies of a side one by one.
use Rattle.std.proofs.Common.{◌≡◌, ◌||◌, ℕ, Bool, true, false, cond, List, [], ◌∷◌, length, map, Option, Some, refl, ap, sym, ◌∙◌, arith}
use Rattle.std.proofs.lemmas.List.Concat.{flat_map-append}
use Rattle.std.specs.List.{filter, flat_map}
use Rattle.rg_policy.specs.declared.policy.Policy.{Policy}
use Rattle.rg_policy.specs.declared.request.AccessRequest.{AccessRequest}
use Rattle.rg_policy.specs.declared.tags.Tag.{Tag}
use Rattle.rg_defs.specs.declared.service_def.ServiceDef.{ServiceDef}
use Rattle.rg_resmatch.specs.Matching.{Matching}
use Rattle.rg_resmatch.specs.Tests.{some_lies}
use Rattle.rg_tags.specs.declared.row.TagRow.{TagRow}
use Rattle.rg_evalr.specs.Sources.{Source}
use Rattle.rg_evalr.specs.declared.frame.Frame.{Frame}
use Rattle.rg_evalr.specs.declared.frame.Side.{Side}
use Rattle.rg_evalr.specs.declared.frame.Side.TheVariants.{Tag as Tagged}
use Rattle.rg_facts.specs.Best.{Best, after}
use Rattle.rg_facts.specs.Candidates.{Candidate, Setting, candidate, frame_of, row_lies, tag_candidates, tags_in}
use Rattle.rg_facts.specs.Engines.{asked_for, row_matching}
use Rattle.rg_facts.specs.declared.facts.Facts.{Facts}
use Rattle.rg_facts.specs.declared.best.Pass.{Pass}
use Rattle.rg_facts.proofs.Passes.{after_both}
use Rattle.rg_plain_engine.specs.Compiled.{sources_of}

pub policies_are : (frame : Frame) (side : Side) (policies : List Policy) → map (λ (s : Source). s.policy) (sources_of frame side policies) ≡ policies
policies_are frame side [] = refl
policies_are frame side (p ∷ policies) = ap (λ ps. p ∷ ps) (policies_are frame side policies)

pub candidates_are : (frame : Frame) (side : Side) (tag : Option Tag) (policies : List Policy) → asked_for tag (sources_of frame side policies) ≡ map (candidate frame side tag) policies
candidates_are frame side tag [] = refl
candidates_are frame side tag (p ∷ policies) = ap (λ cs. candidate frame side tag p ∷ cs) (candidates_are frame side tag policies)

pub all_candidates_are : (facts : Facts) (tags : List Tag) → flat_map (λ tag. asked_for (Some tag) (sources_of (frame_of facts) Tagged facts.tag_policies.items)) tags ≡ flat_map (tag_candidates facts) tags
all_candidates_are facts tags = λ i. flat_map (λ tag. candidates_are (frame_of facts) Tagged (Some tag) facts.tag_policies.items i) tags

empty_of : {X : Type 0} (xs : List X) → length xs ≡ 0 → xs ≡ []
empty_of [] h = refl
empty_of (x ∷ xs) h = absurd (omega (arith, h))

none_each : {X Y : Type 0} (xs : List X) → flat_map (λ x. let ys : List Y = [] in ys) xs ≡ []
none_each [] = refl
none_each (x ∷ xs) = none_each xs

-- without tag policies there is no candidate
pub no_candidates : (facts : Facts) (tags : List Tag) → length facts.tag_policies.items ≡ 0 → flat_map (tag_candidates facts) tags ≡ []
no_candidates facts tags h = (λ i. flat_map (λ tag. map (candidate (frame_of facts) Tagged (Some tag)) (empty_of facts.tag_policies.items h i)) tags) ∙ none_each tags

or_none : (b : Bool) → (b || false) ≡ b
or_none true = refl
or_none false = refl

-- whether a row lies is what its matcher answers, whoever asks
pub matcher_is : (facts : Facts) (q : AccessRequest) (row : TagRow) (m : Matching) (user : List ℕ) → m ≡ row_matching facts.def row → user ≡ []
    → some_lies m.def m.maps m.reach q.resource.elements.items user ≡ row_lies facts q row
matcher_is facts q row m user is nobody =
    (λ i. some_lies (is i).def (is i).maps (is i).reach q.resource.elements.items (nobody i))
    ∙ or_none (row_lies facts q row)

-- the rows after one that lies, or that doesn't
pub row_next : (facts : Facts) (q : AccessRequest) (made : Tag → List Candidate) (row : TagRow) (rows : List TagRow) (pass : Pass) (s : Setting) (b : Best) → row_lies facts q row ≡ true
    → after pass s (flat_map made (tags_in facts q rows)) (after pass s (flat_map made row.tags.items) b) ≡ after pass s (flat_map made (tags_in facts q (row ∷ rows))) b
row_next facts q made row rows pass s b h =
    sym (after_both pass s (flat_map made row.tags.items) (flat_map made (tags_in facts q rows)) b)
    ∙ ap (λ cs. after pass s cs b) (sym (flat_map-append made row.tags.items (tags_in facts q rows)))
    ∙ ap (λ v. after pass s (flat_map made (flat_map (λ (r : TagRow). r.tags.items) (cond v (row ∷ filter (row_lies facts q) rows) (filter (row_lies facts q) rows)))) b) (sym h)

pub row_passed : (facts : Facts) (q : AccessRequest) (row : TagRow) (rows : List TagRow) → row_lies facts q row ≡ false → tags_in facts q rows ≡ tags_in facts q (row ∷ rows)
row_passed facts q row rows h = ap (λ v. flat_map (λ (r : TagRow). r.tags.items) (cond v (row ∷ filter (row_lies facts q) rows) (filter (row_lies facts q) rows))) (sym h)

-- the first of some matchers is that of the first row, and so on
pub first_matcher : (def : ServiceDef) (m : Matching) (ms : List Matching) (row : TagRow) (rows : List TagRow) → m ∷ ms ≡ map (row_matching def) (row ∷ rows) → m ≡ row_matching def row
first_matcher def m ms row rows e = cc

pub later_matchers : (def : ServiceDef) (m : Matching) (ms : List Matching) (row : TagRow) (rows : List TagRow) → m ∷ ms ≡ map (row_matching def) (row ∷ rows) → ms ≡ map (row_matching def) rows
later_matchers def m ms row rows e = cc
