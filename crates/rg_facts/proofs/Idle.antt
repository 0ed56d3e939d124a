-- Policies that take no part may be left out.
use Rattle.std.proofs.Common.{◌≡◌, ◌++◌, Bool, false, List, [], ◌∷◌, map, Option, None, Contains, refl, ap, sym, ◌∙◌}
use Rattle.std.specs.List.{cons_option, filter_map, flat_map}
use Rattle.rg_base.proofs.Lists.{Contains-first, Contains-later}
use Rattle.rg_policy.specs.declared.policy.Policy.{Policy}
use Rattle.rg_policy.specs.declared.tags.Tag.{Tag}
use Rattle.rg_facts.specs.Best.{after, best_from, none_yet, outcome_by, ranked, ranks_before}
use Rattle.rg_facts.specs.Candidates.{Candidate, Setting, takes_part}
use Rattle.rg_facts.specs.Choices.{goes_before, offered}
use Rattle.rg_facts.specs.Firsts.{first_by}
use Rattle.rg_facts.specs.Flow.{outcome_from, outcome_of}
use Rattle.rg_facts.specs.declared.best.Pass.TheVariants.{All}
use Rattle.rg_facts.specs.declared.choice.Kind.TheVariants.{Mask, Filter}
use Rattle.rg_facts.proofs.Cells.{decider_is}
use Rattle.rg_facts.proofs.Least.{best_from_none, by_place, by_rank}
use Rattle.rg_facts.proofs.Passes.{after_all, mapped_both}
use Rattle.rg_facts.proofs.Taking.{unoffered, unranked}

-- ---- what candidates give rests on three lists

pub by_lists : (fallback : Bool) (s : Setting) (xs ys : List Candidate) → filter_map (ranked s) xs ≡ filter_map (ranked s) ys → filter_map (offered s Filter) xs ≡ filter_map (offered s Filter) ys
    → filter_map (offered s Mask) xs ≡ filter_map (offered s Mask) ys → outcome_of fallback s xs ≡ outcome_of fallback s ys
unfolding outcome_of
by_lists fallback s xs ys ranks filters masks = λ i. outcome_from fallback
    ((decider_is s xs ∙ ap (first_by ranks_before) ranks ∙ sym (decider_is s ys)) i)
    (first_by goes_before (filters i))
    (first_by goes_before (masks i))

-- asking them one after the other gives it
pub by_asking : (fallback : Bool) (s : Setting) (cs : List Candidate) → outcome_by fallback (after All s cs none_yet) ≡ outcome_of fallback s cs
unfolding outcome_of
by_asking fallback s cs =
    (λ i. outcome_by fallback (after_all s cs none_yet i))
    ∙ (λ i. outcome_from fallback
    ((best_from_none ranks_before by_rank (filter_map (ranked s) cs) ∙ sym (decider_is s cs)) i)
    (best_from_none goes_before by_place (filter_map (offered s Filter) cs) i)
    (best_from_none goes_before by_place (filter_map (offered s Mask) cs) i))

-- ---- one that gives nothing

mapped_mapped : {X Y Z : Type 0} (f : Y → Option Z) (g : X → Y) (xs : List X) → filter_map f (map g xs) ≡ filter_map (λ x. f (g x)) xs
mapped_mapped f g [] = refl
mapped_mapped f g (x ∷ xs) = ap (cons_option (f (g x))) (mapped_mapped f g xs)

without_one : {X Y : Type 0} (f : X → Option Y) (x : X) (xs ys : List X) → f x ≡ None → filter_map f (xs ++ x ∷ ys) ≡ filter_map f (xs ++ ys)
without_one f x xs ys e =
    mapped_both f xs (x ∷ ys)
    ∙ ap (λ o. filter_map f xs ++ cons_option o (filter_map f ys)) e
    ∙ sym (mapped_both f xs ys)

one_less : {Y : Type 0} (f : Candidate → Option Y) (made : Policy → Candidate) (p : Policy) (before later : List Policy) → f (made p) ≡ None
    → filter_map f (map made (before ++ p ∷ later)) ≡ filter_map f (map made (before ++ later))
one_less f made p before later e =
    mapped_mapped f made (before ++ p ∷ later)
    ∙ without_one (λ x. f (made x)) p before later e
    ∙ sym (mapped_mapped f made (before ++ later))

-- ---- a resource policy

resource_less : {Y : Type 0} (f : Candidate → Option Y) (made : Policy → Candidate) (tags : List Candidate) (p : Policy) (before later : List Policy) → f (made p) ≡ None
    → filter_map f (tags ++ map made (before ++ p ∷ later)) ≡ filter_map f (tags ++ map made (before ++ later))
resource_less f made tags p before later e =
    mapped_both f tags (map made (before ++ p ∷ later))
    ∙ ap (λ ys. filter_map f tags ++ ys) (one_less f made p before later e)
    ∙ sym (mapped_both f tags (map made (before ++ later)))

pub resource_idle : (fallback : Bool) (s : Setting) (made : Policy → Candidate) (tags : List Candidate) (p : Policy) (before later : List Policy) → takes_part s (made p) ≡ false
    → outcome_of fallback s (tags ++ map made (before ++ p ∷ later)) ≡ outcome_of fallback s (tags ++ map made (before ++ later))
resource_idle fallback s made tags p before later idle =
    by_lists fallback s (tags ++ map made (before ++ p ∷ later)) (tags ++ map made (before ++ later))
    (resource_less (ranked s) made tags p before later (unranked s (made p) idle))
    (resource_less (offered s Filter) made tags p before later (unoffered s Filter (made p) idle))
    (resource_less (offered s Mask) made tags p before later (unoffered s Mask (made p) idle))

-- ---- a tag policy

tags_less : {Y : Type 0} (f : Candidate → Option Y) (made : Tag → Policy → Candidate) (p : Policy) (before later : List Policy) (tags : List Tag)
    → ((tag : Tag) → Contains tags tag → f (made tag p) ≡ None)
    → filter_map f (flat_map (λ tag. map (made tag) (before ++ p ∷ later)) tags) ≡ filter_map f (flat_map (λ tag. map (made tag) (before ++ later)) tags)
tags_less f made p before later [] idle = refl
tags_less f made p before later (tag ∷ tags) idle =
    mapped_both f (map (made tag) (before ++ p ∷ later)) (flat_map (λ t. map (made t) (before ++ p ∷ later)) tags)
    ∙ ap (λ ys. ys ++ filter_map f (flat_map (λ t. map (made t) (before ++ p ∷ later)) tags)) (one_less f (made tag) p before later (idle tag (Contains-first tag tags)))
    ∙ ap (λ ys. filter_map f (map (made tag) (before ++ later)) ++ ys) (tags_less f made p before later tags (λ t i. idle t (Contains-later tag tags t i)))
    ∙ sym (mapped_both f (map (made tag) (before ++ later)) (flat_map (λ t. map (made t) (before ++ later)) tags))

tagged_less : {Y : Type 0} (f : Candidate → Option Y) (made : Tag → Policy → Candidate) (resource : List Candidate) (p : Policy) (before later : List Policy) (tags : List Tag)
    → ((tag : Tag) → Contains tags tag → f (made tag p) ≡ None)
    → filter_map f (flat_map (λ tag. map (made tag) (before ++ p ∷ later)) tags ++ resource) ≡ filter_map f (flat_map (λ tag. map (made tag) (before ++ later)) tags ++ resource)
tagged_less f made resource p before later tags idle =
    mapped_both f (flat_map (λ tag. map (made tag) (before ++ p ∷ later)) tags) resource
    ∙ ap (λ ys. ys ++ filter_map f resource) (tags_less f made p before later tags idle)
    ∙ sym (mapped_both f (flat_map (λ tag. map (made tag) (before ++ later)) tags) resource)

pub tagged_idle : (fallback : Bool) (s : Setting) (made : Tag → Policy → Candidate) (resource : List Candidate) (p : Policy) (before later : List Policy) (tags : List Tag)
    → ((tag : Tag) → Contains tags tag → takes_part s (made tag p) ≡ false)
    → outcome_of fallback s (flat_map (λ tag. map (made tag) (before ++ p ∷ later)) tags ++ resource) ≡ outcome_of fallback s (flat_map (λ tag. map (made tag) (before ++ later)) tags ++ resource)
tagged_idle fallback s made resource p before later tags idle =
    by_lists fallback s _ _
    (tagged_less (ranked s) made resource p before later tags (λ t i. unranked s (made t p) (idle t i)))
    (tagged_less (offered s Filter) made resource p before later tags (λ t i. unoffered s Filter (made t p) (idle t i)))
    (tagged_less (offered s Mask) made resource p before later tags (λ t i. unoffered s Mask (made t p) (idle t i)))
